-- R-7: a report's turns, over plain variables: a record, then the reads, writes and folds after it, whose clocks are moved when all of them are done.
use Rattle.std.specs.Prelude.{None, Some}
use mathlib.Core.Path.{◌≡◌, refl, sym, ap, subst, ◌∙◌}
use mathlib.Core.Logic.{◌≢◌, inl, inr}
use mathlib.Core.Bool.{Bool, true, false, cond, ◌&&◌}
use mathlib.Core.List.{List, [], ◌∷◌, ◌++◌}
use Prim.Native.Nat.{ℕ, zero, suc, ◌+◌, ◌-◌, ◌*◌, ◌≤◌, ◌<◌}
use native.Mathlib.Omega.{arith}
use lib.Dec.{eqb, ltb, leb}
use lib.ListN.{length, get_or}
use native.Mathlib.Decide.{ℕ_discrete}
use borrow.Author.Tests.{ne_eqb, eqb-true, eq-eqb, lt-leb}
use Rattle.words.specs.Tests.{decided, true≢false, lt_of, not-false}
use Rattle.frames.specs.Widths.{max_workers}
use Rattle.frames.specs.Deques.{size, bottom}
use Rattle.frames.specs.Frames.{frame_at}
use Rattle.model.specs.Record.{Decoded, valid_if, record_of, decode_at}
use Rattle.model.specs.declared.Step.{Step}
use Rattle.model.specs.declared.Step.TheVariants.{Spawn, Return, Steal, Sync, Read, Write, Fold}
use Rattle.semantics.specs.declared.Refusal.{Refusal}
use Rattle.semantics.specs.declared.Refusal.TheVariants.{NoWorker, MainReturned, WorkerIdle}
use Rattle.semantics.specs.declared.Rise.{Rise}
use Rattle.semantics.specs.Answers.{answer_words}
use Rattle.semantics.specs.Core.{Core, StepResult, idle, no_worker, all_idle, judged, acting_tests, kind_tests, tests_of, done_by, step_on, spawn_on, steal_on, sync_on, read_on, write_on, fold_on}
use Rattle.semantics.specs.Entries.{RecordsResult, records_result, records_from, records_of, record_on, put_answer, run_on}
use Rattle.semantics.specs.Ranges.{Kept, Ready}
use Rattle.semantics.specs.Timing.{latest, rise, Timing, costing, ticked, rise_from, timed_with, worker_of, timed_record, timed_over}
use Rattle.semantics.proofs.Theory.Kept.{kept_record}
use Rattle.semantics.proofs.Theory.Ready.{kept_ready}
use Rattle.semantics.proofs.Theory.Refusals.{number_range}
use Rattle.semantics.proofs.Theory.TapeWords.{length_records, put_long, put_before, put_first, put_second}
use Rattle.semantics.proofs.Theory.TimedWords.{AtMost, timed_most, timed_over_most, rise_most, moves_no_deque, deques_kept, timed_ticks, run-core, timed_append}
use Rattle.timing.specs.Turns.{timing, kind_at, worker_at, first_at, ticks_over, AllClocked}
use Rattle.engine.proofs.RecordLoop.{finish}
use Rattle.soundness.specs.Layout.{two_words}
use Rattle.semantics.proofs.Theory.TwoPools.{two_pools}

-- ---- records in two parts

records_split : (m n : ℕ) (tape : List ℕ) (at : ℕ) → records_from (m + n) tape at ≡ records_from m tape at ++ records_from n tape (at + 8 * m)
unfolding records_from
records_split zero n tape at =
    let e : 0 + n ≡ n = omega arith in
    let z : at ≡ at + 8 * 0 = omega arith in
    ap (λ (k : ℕ). records_from k tape at) e ∙ ap (λ (k : ℕ). records_from n tape k) z
records_split (suc m) n tape at =
    let e : suc m + n ≡ suc (m + n) = omega arith in
    let z : at + 8 + 8 * m ≡ at + 8 * suc m = omega arith in
    ap (λ (k : ℕ). records_from k tape at) e
    ∙ ap (λ ds. decode_at tape at ∷ ds) (records_split m n tape (at + 8) ∙ ap (λ (k : ℕ). records_from m tape (at + 8) ++ records_from n tape k) z)

run-append : (xs ys : List Decoded) (r : RecordsResult) (k : ℕ) → run_on two_words r k (xs ++ ys) ≡ run_on two_words (run_on two_words r k xs) (k + 2 * length xs) ys
unfolding run_on
run-append [] ys r k = let z : k ≡ k + 2 * 0 = omega arith in ap (λ (j : ℕ). run_on two_words r j ys) z
run-append (d ∷ xs) ys r k =
    let q : RecordsResult = records_result (record_on two_words r.core d).core (put_answer r.answers k (record_on two_words r.core d).answer) in
    let z : k + 2 + 2 * length xs ≡ k + 2 * suc (length xs) = omega arith in
    run-append xs ys q (k + 2) ∙ ap (λ (j : ℕ). run_on two_words (run_on two_words q (k + 2) xs) j ys) z

-- those of a tape from the i-th up to the n-th, by the j-th
module _ (tape : List ℕ) (i j n : ℕ) (l : i ≤ j) (m : j ≤ n) where
  split_at : records_from (n - i) tape (8 * i) ≡ records_from (j - i) tape (8 * i) ++ records_from (n - j) tape (8 * j)
  split_at =
      let e : n - i ≡ (j - i) + (n - j) = omega arith in
      let z : 8 * i + 8 * (j - i) ≡ 8 * j = omega arith in
      ap (λ (k : ℕ). records_from k tape (8 * i)) e ∙ records_split (j - i) (n - j) tape (8 * i) ∙ ap (λ (k : ℕ). records_from (j - i) tape (8 * i) ++ records_from (n - j) tape k) z

  pub run-parts : (r : RecordsResult) → run_on two_words (run_on two_words r (2 * i) (records_from (j - i) tape (8 * i))) (2 * j) (records_from (n - j) tape (8 * j)) ≡ run_on two_words r (2 * i) (records_from (n - i) tape (8 * i))
  run-parts r =
      let xs = records_from (j - i) tape (8 * i) in
      let ys = records_from (n - j) tape (8 * j) in
      let z : 2 * j ≡ 2 * i + 2 * length xs = omega (arith, length_records (j - i) tape (8 * i)) in
      ap (λ (k : ℕ). run_on two_words (run_on two_words r (2 * i) xs) k ys) z ∙ sym (run-append xs ys r (2 * i)) ∙ ap (λ ds. run_on two_words r (2 * i) ds) (sym split_at)

  pub timed_parts : (r : RecordsResult) (t : Timing)
      → timed_over two_words (run_on two_words r (2 * i) (records_from (j - i) tape (8 * i))).core (records_from (n - j) tape (8 * j)) (timed_over two_words r.core (records_from (j - i) tape (8 * i)) t)
      ≡ timed_over two_words r.core (records_from (n - i) tape (8 * i)) t
  timed_parts r t =
      let xs = records_from (j - i) tape (8 * i) in
      let ys = records_from (n - j) tape (8 * j) in
      ap (λ (c : Core). timed_over two_words c ys (timed_over two_words r.core xs t)) (run-core two_words r (2 * i) xs) ∙ sym (timed_append two_words r.core xs ys t) ∙ ap (λ ds. timed_over two_words r.core ds t) (sym split_at)

-- a run keeps the core sound, and the answer words before its own
pub kept_run : (ds : List Decoded) (r : RecordsResult) (k : ℕ) → Kept two_words r.core → Kept two_words (run_on two_words r k ds).core
unfolding run_on
kept_run [] r k K = K
kept_run (d ∷ ds) r k K = kept_run ds (records_result (record_on two_words r.core d).core (put_answer r.answers k (record_on two_words r.core d).answer)) (k + 2) (kept_record two_words two_pools r.core K d)

run_before : (ds : List Decoded) (c : Core) (a : List ℕ) (k j : ℕ) → j < k → get_or (run_on two_words (records_result c a) k ds).answers j 0 ≡ get_or a j 0
unfolding run_on
run_before [] c a k j l = refl
run_before (d ∷ ds) c a k j l = run_before ds (record_on two_words c d).core (put_answer a k (record_on two_words c d).answer) (k + 2) j (omega arith) ∙ put_before a k j (record_on two_words c d).answer l

-- ---- a record's kind and worker are its first two bytes

abbrev kind_number : Step → ℕ
kind_number (Spawn w) = 1
kind_number (Return w) = 2
kind_number (Steal w v) = 3
kind_number (Sync w) = 4
kind_number (Read w x) = 5
kind_number (Write w x v) = 6
kind_number (Fold w r v) = 7

abbrev Holds : ℕ → ℕ → Decoded → Type 0
Holds kind w (Some st) = (kind_number st ≡ kind) × (worker_of st ≡ w)
Holds kind w None = Unit {0}

valid_holds : (kind w : ℕ) (st : Step) (b : Bool) → kind_number st ≡ kind → worker_of st ≡ w → Holds kind w (valid_if b st)
valid_holds kind w st true e f = (e, f)
valid_holds kind w st false e f = tt

pick_holds : (kind w k : ℕ) (x y : Decoded) → (k ≡ kind → Holds kind w x) → Holds kind w y → Holds kind w (cond (eqb kind k) x y)
pick_holds kind w k x y f g = elim (decided (eqb kind k)) [ inl e ↦ rw e (f (sym (eqb-true kind k e))) | inr e ↦ rw e g ]

record_holds : (kind w field value : ℕ) → Holds kind w (record_of kind w field value)
unfolding record_of
record_holds kind w field value =
    pick_holds kind w 1 _ _ (λ e. valid_holds kind w (Spawn w) (eqb field 0 && eqb value 0) e refl)
    (pick_holds kind w 2 _ _ (λ e. valid_holds kind w (Return w) (eqb field 0 && eqb value 0) e refl)
    (pick_holds kind w 3 _ _ (λ e. valid_holds kind w (Steal w field) (eqb value 0) e refl)
    (pick_holds kind w 4 _ _ (λ e. valid_holds kind w (Sync w) (eqb field 0 && eqb value 0) e refl)
    (pick_holds kind w 5 _ _ (λ e. valid_holds kind w (Read w field) (eqb value 0) e refl)
    (pick_holds kind w 6 _ _ (λ e. (e, refl))
    (pick_holds kind w 7 _ _ (λ e. (e, refl)) tt))))))

decode_holds : (tape : List ℕ) (at : ℕ) → Holds (get_or tape at 0) (get_or tape (at + 1) 0) (decode_at tape at)
unfolding decode_at
decode_holds tape at = elim (decided (ltb (length tape) (at + 8))) [ inl e ↦ rw e tt | inr e ↦ rw e (record_holds (get_or tape at 0) (get_or tape (at + 1) 0) _ _) ]

-- of the i-th record
holds_at : (tape : List ℕ) (at i : ℕ) → at ≡ 8 * i → Holds (kind_at tape i) (worker_at tape i) (decode_at tape at)
holds_at tape at i e = subst (λ (k : ℕ). Holds (get_or tape k 0) (get_or tape (k + 1) 0) (decode_at tape at)) e (decode_holds tape at)

-- ---- what the answer words say of the step

abbrev first_of : StepResult → ℕ
first_of d = (answer_words d.answer).0

judged-next : (t : Bool × Refusal) (ts : List (Bool × Refusal)) (c : Core) (d : StepResult) → 100 ≤ first_of (judged (t ∷ ts) c d) → (t.0 ≡ false) × (100 ≤ first_of (judged ts c d))
judged-next t ts c d l = elim (decided t.0) [ inl e ↦ absurd (omega (arith, rw e at l, (number_range t.1).1)) | inr e ↦ (e, rw e at l) ]

judged_not : (k : ℕ) → 100 ≤ k → (ts : List (Bool × Refusal)) (c : Core) (d : StepResult) → first_of d ≢ k → first_of (judged ts c d) ≢ k
judged_not k l [] c d n e = n e
judged_not k l (t ∷ ts) c d n e = elim (decided t.0) [ inl b ↦ omega (arith, rw b at e, (number_range t.1).1) | inr b ↦ judged_not k l ts c d n (rw b at e) ]

-- a step of worker w's bottom frame that is accepted: the worker exists and has a frame
abbrev Busy : Core → ℕ → Type 0
Busy c w = (w < c.head.numbers.workers) × (0 < size c.deques w)

step_busy : (c : Core) (st : Step) (w : ℕ) → tests_of two_words c st ≡ acting_tests c w ++ kind_tests two_words c st → 100 ≤ first_of (step_on two_words c st) → Busy c w
unfolding step_on
step_busy c st w e l =
    let third : List (Bool × Refusal) = (idle c w, WorkerIdle) ∷ kind_tests two_words c st in
    let a = judged-next (no_worker c w, NoWorker) ((all_idle c, MainReturned) ∷ third) c (done_by two_words c st) (subst (λ ts. 100 ≤ first_of (judged ts c (done_by two_words c st))) e l) in
    let b = judged-next (all_idle c, MainReturned) third c (done_by two_words c st) a.1 in
    let d = judged-next (idle c w, WorkerIdle) (kind_tests two_words c st) c (done_by two_words c st) b.1 in
    let n : size c.deques w ≢ 0 = λ z. true≢false (sym (eq-eqb (size c.deques w) 0 z) ∙ d.0) in
    (lt_of (not-false (ltb w c.head.numbers.workers) a.0), omega (arith, n))

-- only a steal is of an idle worker
accepted_busy : (c : Core) (d : Decoded) (kind w : ℕ) → Holds kind w d → 100 ≤ first_of (record_on two_words c d) → first_of (record_on two_words c d) ≢ 103 → Busy c w
unfolding step_on steal_on
accepted_busy c None kind w H l n = absurd (omega (arith, l))
accepted_busy c (Some (Spawn v)) kind w H l n = subst (λ (x : ℕ). Busy c x) H.1 (step_busy c (Spawn v) v refl l)
accepted_busy c (Some (Return v)) kind w H l n = subst (λ (x : ℕ). Busy c x) H.1 (step_busy c (Return v) v refl l)
accepted_busy c (Some (Steal v x)) kind w H l n = absurd (n (stolen (tests_of two_words c (Steal v x)) l))
  where
    stolen : (ts : List (Bool × Refusal)) → 100 ≤ first_of (judged ts c (done_by two_words c (Steal v x))) → first_of (judged ts c (done_by two_words c (Steal v x))) ≡ 103
    stolen [] b = refl
    stolen (t ∷ ts) b = elim (decided t.0) [ inl e ↦ absurd (omega (arith, rw e at b, (number_range t.1).1)) | inr e ↦ rw e (stolen ts (rw e at b)) ]
accepted_busy c (Some (Sync v)) kind w H l n = subst (λ (x : ℕ). Busy c x) H.1 (step_busy c (Sync v) v refl l)
accepted_busy c (Some (Read v x)) kind w H l n = subst (λ (x : ℕ). Busy c x) H.1 (step_busy c (Read v x) v refl l)
accepted_busy c (Some (Write v x y)) kind w H l n = subst (λ (x : ℕ). Busy c x) H.1 (step_busy c (Write v x y) v refl l)
accepted_busy c (Some (Fold v x y)) kind w H l n = subst (λ (x : ℕ). Busy c x) H.1 (step_busy c (Fold v x y) v refl l)

-- and only a return has 102
returns_only : (c : Core) (d : Decoded) (kind w : ℕ) → Holds kind w d → first_of (record_on two_words c d) ≡ 102 → kind ≡ 2
unfolding step_on spawn_on steal_on sync_on read_on write_on fold_on
returns_only c None kind w H e = absurd (omega (arith, e))
returns_only c (Some (Spawn v)) kind w H e = absurd (judged_not 102 (omega arith) (tests_of two_words c (Spawn v)) c (spawn_on two_words c v) (λ z. omega arith) e)
returns_only c (Some (Return v)) kind w H e = sym H.0
returns_only c (Some (Steal v x)) kind w H e = absurd (judged_not 102 (omega arith) (tests_of two_words c (Steal v x)) c (steal_on c v x) (λ z. omega arith) e)
returns_only c (Some (Sync v)) kind w H e = absurd (judged_not 102 (omega arith) (tests_of two_words c (Sync v)) c (sync_on c v) (λ z. omega arith) e)
returns_only c (Some (Read v x)) kind w H e = absurd (judged_not 102 (omega arith) (tests_of two_words c (Read v x)) c (read_on two_words c v x) (λ z. omega arith) e)
returns_only c (Some (Write v x y)) kind w H e = absurd (judged_not 102 (omega arith) (tests_of two_words c (Write v x y)) c (write_on two_words c v x y) (λ z. omega arith) e)
returns_only c (Some (Fold v x y)) kind w H e = absurd (judged_not 102 (omega arith) (tests_of two_words c (Fold v x y)) c (fold_on c v x y) (λ z. omega arith) e)

-- ---- the clocks that one record moves

rise_unused : (a : ℕ × ℕ) (p g : ℕ) (r r' : Rise) (t : Timing) → a.0 ≢ 102 → timed_with a p g r t ≡ timed_with a p g r' t
unfolding timed_with
rise_unused a p g r r' t n = rw (ne_eqb a.0 102 n)

refused_still : (a : ℕ × ℕ) (p g p' g' : ℕ) (r r' : Rise) (t : Timing) → a.0 < 100 → timed_with a p g r t ≡ timed_with a p' g' r' t
unfolding timed_with
refused_still a p g p' g' r r' t l =
    rw (lt-leb 105 a.0 (omega arith), ne_eqb a.0 101 (λ z. omega arith), ne_eqb a.0 102 (λ z. omega arith), ne_eqb a.0 104 (λ z. omega arith))

-- by the record's first two bytes; the ends matter only if it is a return
by_bytes : (c : Core) (d : Decoded) (kind w : ℕ) → Holds kind w d → (t : Timing) (r : Rise) → (kind ≡ 2 → r ≡ rise_from c t.clocks w)
    → timed_with (answer_words (record_on two_words c d).answer) (bottom c.deques w) c.head.numbers.free_place r t ≡ timed_record two_words c d t
by_bytes c None kind w H t r e =
    refused_still (answer_words (record_on two_words c None).answer) (bottom c.deques w) c.head.numbers.free_place (bottom c.deques 0) c.head.numbers.free_place r (rise_from c t.clocks 0) t (omega arith)
by_bytes c (Some st) kind w H t r e =
    let a : ℕ × ℕ = answer_words (record_on two_words c (Some st)).answer in
    let g : ℕ = c.head.numbers.free_place in
    let same : timed_with a (bottom c.deques w) g r t ≡ timed_with a (bottom c.deques w) g (rise_from c t.clocks w) t = elim (ℕ_discrete a.0 102) [
      | yes z ↦ ap (λ (q : Rise). timed_with a (bottom c.deques w) g q t) (e (returns_only c (Some st) kind w H z))
      | no z ↦ rise_unused a (bottom c.deques w) g r (rise_from c t.clocks w) t z
    ] in
    same ∙ ap (λ (v : ℕ). timed_with a (bottom c.deques v) g (rise_from c t.clocks v) t) (sym H.1)

-- ---- the reads, writes and folds of a turn

moves_none : (d : Decoded) (kind w : ℕ) → Holds kind w d → 5 ≤ kind → moves_no_deque d ≡ true
moves_none None kind w H l = refl
moves_none (Some (Spawn v)) kind w H l = absurd (omega (arith, H.0))
moves_none (Some (Return v)) kind w H l = absurd (omega (arith, H.0))
moves_none (Some (Steal v x)) kind w H l = absurd (omega (arith, H.0))
moves_none (Some (Sync v)) kind w H l = absurd (omega (arith, H.0))
moves_none (Some (Read v x)) kind w H l = refl
moves_none (Some (Write v x y)) kind w H l = refl
moves_none (Some (Fold v x y)) kind w H l = refl

not_stolen : (c : Core) (d : Decoded) → moves_no_deque d ≡ true → first_of (record_on two_words c d) ≢ 103
unfolding step_on read_on write_on fold_on
not_stolen c None e z = omega (arith, z)
not_stolen c (Some (Spawn v)) e z = true≢false (sym e)
not_stolen c (Some (Return v)) e z = true≢false (sym e)
not_stolen c (Some (Steal v x)) e z = true≢false (sym e)
not_stolen c (Some (Sync v)) e z = true≢false (sym e)
not_stolen c (Some (Read v x)) e z = judged_not 103 (omega arith) (tests_of two_words c (Read v x)) c (read_on two_words c v x) (λ y. omega arith) z
not_stolen c (Some (Write v x y)) e z = judged_not 103 (omega arith) (tests_of two_words c (Write v x y)) c (write_on two_words c v x y) (λ y. omega arith) z
not_stolen c (Some (Fold v x y)) e z = judged_not 103 (omega arith) (tests_of two_words c (Fold v x y)) c (fold_on c v x y) (λ y. omega arith) z

tick_is : (c : Core) (d : Decoded) (kind w : ℕ) (t : Timing) → Holds kind w d → moves_no_deque d ≡ true
    → timed_record two_words c d t ≡ cond (leb 100 (first_of (record_on two_words c d))) (costing t (ticked t.clocks (bottom c.deques w))) t
tick_is c None kind w t H e = timed_ticks two_words two_pools c None t e
tick_is c (Some st) kind w t H e =
    timed_ticks two_words two_pools c (Some st) t e ∙ ap (λ (v : ℕ). cond (leb 100 (first_of (record_on two_words c (Some st)))) (costing t (ticked t.clocks (bottom c.deques v))) t) H.1

-- k records from the i-th on, from the core c: the deques stay, the clocks move by the answer words, and who is accepted has a frame
record Batch (tape : List ℕ) (c : Core) (r : RecordsResult) (ds : List Decoded) (i k : ℕ) : Type 0 where
  deques : r.core.deques ≡ c.deques
  timed : (t : Timing) → ticks_over c.deques tape r.answers i k t ≡ timed_over two_words c ds t
  busy : (j : ℕ) → i ≤ j → j < i + k → 100 ≤ first_at r.answers j → (worker_at tape j < max_workers) × (0 < size c.deques (worker_at tape j))

batch : (tape : List ℕ) (k : ℕ) (c : Core) (a : List ℕ) (i at m : ℕ) → at ≡ 8 * i → m ≡ 2 * i → Kept two_words c → 2 * (i + k) ≤ length a → ((j : ℕ) → i ≤ j → j < i + k → 5 ≤ kind_at tape j)
    → Batch tape c (run_on two_words (records_result c a) m (records_from k tape at)) (records_from k tape at) i k
unfolding records_from run_on timed_over ticks_over
batch tape zero c a i at m e f K l kinds = record { deques = refl; timed = λ t. refl; busy = λ j x y z. absurd (omega (arith, x, y)) }
batch tape (suc k) c a i at m e f K l kinds =
    let d : Decoded = decode_at tape at in
    let c₁ : Core = (record_on two_words c d).core in
    let a₁ : List ℕ = put_answer a m (record_on two_words c d).answer in
    let rest : List Decoded = records_from k tape (at + 8) in
    let R : RecordsResult = run_on two_words (records_result c₁ a₁) (m + 2) rest in
    let H : Holds (kind_at tape i) (worker_at tape i) d = holds_at tape at i e in
    let none_moves : moves_no_deque d ≡ true = moves_none d (kind_at tape i) (worker_at tape i) H (kinds i (omega arith) (omega arith)) in
    let B : Batch tape c₁ R rest (suc i) k =
    batch tape k c₁ a₁ (suc i) (at + 8) (m + 2) (omega (arith, e)) (omega (arith, f)) (kept_record two_words two_pools c K d) (omega (arith, l, put_long a m (record_on two_words c d).answer)) (λ j x y. kinds j (omega (arith, x)) (omega (arith, y))) in
    let D : c₁.deques ≡ c.deques = deques_kept two_words c d none_moves in
    let first : first_at R.answers i ≡ first_of (record_on two_words c d) =
    ap (λ (x : ℕ). get_or R.answers x 0) (sym f) ∙ run_before rest c₁ a₁ (m + 2) m (omega arith) ∙ put_first a m (record_on two_words c d).answer (omega (arith, l, f)) in
    record {
      deques = B.deques ∙ D;
      timed = λ t.
          let t₁ : Timing = cond (leb 100 (first_at R.answers i)) (costing t (ticked t.clocks (bottom c.deques (worker_at tape i)))) t in
          let s : t₁ ≡ timed_record two_words c d t =
          ap (λ (x : ℕ). cond (leb 100 x) (costing t (ticked t.clocks (bottom c.deques (worker_at tape i)))) t) first ∙ sym (tick_is c d (kind_at tape i) (worker_at tape i) t H none_moves) in
          ap (λ ds. ticks_over ds tape R.answers (suc i) k t₁) (sym D) ∙ B.timed t₁ ∙ ap (λ (x : Timing). timed_over two_words c₁ rest x) s;
      busy = λ j x y z. elim (ℕ_discrete j i) [
        | yes q ↦
            let A : Busy c (worker_at tape i) = accepted_busy c d (kind_at tape i) (worker_at tape i) H (omega (arith, first, ap (λ (b : ℕ). first_at R.answers b) q, z)) (not_stolen c d none_moves) in
            subst (λ (b : ℕ). (worker_at tape b < max_workers) × (0 < size c.deques (worker_at tape b))) (sym q) (omega (arith, A.0, (kept_ready c K).workers_le), A.1)
        | no q ↦
            let A = B.busy j (omega (arith, q, x)) (omega (arith, y)) z in
            (A.0, subst (λ ds. 0 < size ds (worker_at tape j)) D A.1)
      ];
    }

-- ---- a turn: the record at i, then those up to the one at `to`, from the core c to the core c'

-- a worker that has a frame executes one in the table
bottom_within : (c : Core) → Kept two_words c → (w : ℕ) → w < max_workers → 0 < size c.deques w → bottom c.deques w < length c.frames
unfolding bottom
bottom_within c K w l b = (kept_ready c K).held w (size c.deques w - 1) l (omega arith)

module _ (tape : List ℕ) (c : Core) (a : List ℕ) (i to : ℕ) (K : Kept two_words c) (room : 2 * to ≤ length a) (l : i < to) (kinds : (j : ℕ) → i + 1 ≤ j → j < to → 5 ≤ kind_at tape j)
    (c' : Core) (a' : List ℕ) (done : records_result c' a' ≡ run_on two_words (records_result c a) (2 * i) (records_from (to - i) tape (8 * i))) where
  abbrev d : Decoded
  d = decode_at tape (8 * i)

  abbrev c₁ : Core
  c₁ = (record_on two_words c d).core

  abbrev a₁ : List ℕ
  a₁ = put_answer a (2 * i) (record_on two_words c d).answer

  abbrev others : List Decoded
  others = records_from (to - (i + 1)) tape (8 * i + 8)

  abbrev after : RecordsResult
  after = run_on two_words (records_result c₁ a₁) (2 * i + 2) others

  held : Holds (kind_at tape i) (worker_at tape i) d
  held = holds_at tape (8 * i) i refl

  one_more : records_from (to - i) tape (8 * i) ≡ d ∷ others
  unfolding records_from
  one_more = let e : to - i ≡ suc (to - (i + 1)) = omega arith in ap (λ (k : ℕ). records_from k tape (8 * i)) e

  after_is : records_result c' a' ≡ after
  unfolding run_on
  after_is = done ∙ ap (λ ds. run_on two_words (records_result c a) (2 * i) ds) one_more

  the_batch : Batch tape c₁ after others (i + 1) (to - (i + 1))
  the_batch =
      batch tape (to - (i + 1)) c₁ a₁ (i + 1) (8 * i + 8) (2 * i + 2) (omega arith) (omega arith) (kept_record two_words two_pools c K d) (omega (arith, l, room, put_long a (2 * i) (record_on two_words c d).answer))
      (λ j x y. kinds j x (omega (arith, y, l)))

  -- the first record's answer words
  first_word : get_or a' (2 * i) 0 ≡ (answer_words (record_on two_words c d).answer).0
  first_word =
      ap (λ (q : RecordsResult). get_or q.answers (2 * i) 0) after_is ∙ run_before others c₁ a₁ (2 * i + 2) (2 * i) (omega arith) ∙ put_first a (2 * i) (record_on two_words c d).answer (omega (arith, l, room))

  second_word : get_or a' (2 * i + 1) 0 ≡ (answer_words (record_on two_words c d).answer).1
  second_word =
      let e : 2 * i + 1 ≡ suc (2 * i) = omega arith in
      ap (λ (q : RecordsResult). get_or q.answers (2 * i + 1) 0) after_is
      ∙ run_before others c₁ a₁ (2 * i + 2) (2 * i + 1) (omega arith)
      ∙ ap (λ (k : ℕ). get_or a₁ k 0) e
      ∙ put_second a (2 * i) (record_on two_words c d).answer (omega (arith, l, room))

  module _ (x : ℕ) (ex : x ≡ get_or a' (2 * i) 0) where
    pub first_within : (p : ℕ) → p ≡ bottom c.deques (worker_at tape i) → 105 ≤ x → p < length c.frames
    first_within p ep b =
        let A : Busy c (worker_at tape i) = accepted_busy c d (kind_at tape i) (worker_at tape i) held (omega (arith, ex, first_word, b)) (λ z. omega (arith, ex, first_word, b, z)) in
        subst (λ (q : ℕ). q < length c.frames) (sym ep) (bottom_within c K (worker_at tape i) (omega (arith, A.0, (kept_ready c K).workers_le)) A.1)

    -- the ends, as the code has them
    module _ (ks : List ℕ) (p : ℕ) (r : Rise) (ep : p ≡ bottom c.deques (worker_at tape i)) (er : kind_at tape i ≡ 2 → r ≡ rise (frame_at c.frames p).depth c.frames ks p (latest ks p)) where
      rise_is : kind_at tape i ≡ 2 → r ≡ rise_from c ks (worker_at tape i)
      rise_is k = er k ∙ ap (λ (q : ℕ). rise (frame_at c.frames q).depth c.frames ks q (latest ks q)) ep

      pub rise_low : ((j : ℕ) → get_or ks j 0 ≤ i) → x ≡ 102 → r.clock ≤ i
      rise_low h z =
          let k : kind_at tape i ≡ 2 = returns_only c d (kind_at tape i) (worker_at tape i) held (sym first_word ∙ sym ex ∙ z) in
          let b : latest ks p ≤ i = (let u = h (2 * p) in let v = h (suc (2 * p)) in omega arith) in
          subst (λ (q : Rise). q.clock ≤ i) (sym (er k)) (rise_most two_words two_pools i c.frames ks h (frame_at c.frames p).depth p (latest ks p) b)

      -- the clocks after the first record
      module _ (y : ℕ) (ey : y ≡ get_or a' (2 * i + 1) 0) (ks₁ : List ℕ) (work span work₁ span₁ : ℕ)
          (e₁ : timing ks₁ work₁ span₁ ≡ timed_with (x, y) p c.head.numbers.free_place r (timing ks work span)) where
        first_timed : timing ks₁ work₁ span₁ ≡ timed_record two_words c d (timing ks work span)
        first_timed =
            let t : Timing = timing ks work span in
            let g : ℕ = c.head.numbers.free_place in
            e₁
            ∙ ap (λ (v : ℕ). timed_with (v, y) p g r t) (ex ∙ first_word)
            ∙ ap (λ (v : ℕ). timed_with ((answer_words (record_on two_words c d).answer).0, v) p g r t) (ey ∙ second_word)
            ∙ ap (λ (q : ℕ). timed_with (answer_words (record_on two_words c d).answer) q g r t) ep
            ∙ by_bytes c d (kind_at tape i) (worker_at tape i) held t r rise_is

        pub first_most : AtMost i (timing ks work span) → AtMost (suc i) (timing ks₁ work₁ span₁)
        first_most h = subst (λ (t : Timing). AtMost (suc i) t) (sym first_timed) (timed_most two_words two_pools i (timing ks work span) h c d)

        pub turn_timed : (ks₂ : List ℕ) (work₂ : ℕ)
            → ((s : ℕ) → timing ks₂ work₂ s ≡ ticks_over c'.deques tape a' (i + 1) (to - (i + 1)) (timing ks₁ work₁ s))
            → timing ks₂ work₂ span₁ ≡ timed_over two_words c (records_from (to - i) tape (8 * i)) (timing ks work span)
        unfolding timed_over
        turn_timed ks₂ work₂ e₂ =
            let k : ℕ = to - (i + 1) in
            e₂ span₁
            ∙ ap (λ (q : RecordsResult). ticks_over q.core.deques tape q.answers (i + 1) k (timing ks₁ work₁ span₁)) after_is
            ∙ ap (λ ds. ticks_over ds tape after.answers (i + 1) k (timing ks₁ work₁ span₁)) the_batch.deques
            ∙ the_batch.timed (timing ks₁ work₁ span₁)
            ∙ ap (λ (t : Timing). timed_over two_words c₁ others t) first_timed
            ∙ ap (λ ds. timed_over two_words c ds (timing ks work span)) (sym one_more)

  -- the reads, writes and folds that were accepted have clock words
  pub turn_kept : Kept two_words c'
  turn_kept = subst (λ (q : RecordsResult). Kept two_words q.core) (sym done) (kept_run (records_from (to - i) tape (8 * i)) (records_result c a) (2 * i) K)

  pub turn_clocked : (ks : List ℕ) → length ks ≡ 2 * length c'.frames → AllClocked c'.deques ks tape a' (i + 1) to
  turn_clocked ks long j x y z =
      let w : ℕ = worker_at tape j in
      let R : Ready c' = kept_ready c' turn_kept in
      let A = the_batch.busy j x (omega (arith, y, l)) (subst (λ (q : RecordsResult). 100 ≤ first_at q.answers j) after_is z) in
      let same : c'.deques ≡ c₁.deques = ap (λ (q : RecordsResult). q.core.deques) after_is ∙ the_batch.deques in
      let some : 0 < size c'.deques w = subst (λ ds. 0 < size ds w) (sym same) A.1 in
      record { long = R.long_deques; worker = A.0; busy = some; few = R.sizes w A.0; within = omega (arith, long, bottom_within c' turn_kept w A.0 some) }

-- ---- the loop of turns

-- before the i-th of n records, with the core c, the answer words a and the clocks, work and span t: what is left gives what all records give from the start
pub record Going (tape : List ℕ) (n : ℕ) (r₀ : RecordsResult) (t₀ : Timing) (c : Core) (a : List ℕ) (t : Timing) (i : ℕ) : Type 0 where
  pub few : i ≤ n
  pub kept : Kept two_words c
  pub run : run_on two_words (records_result c a) (2 * i) (records_from (n - i) tape (8 * i)) ≡ run_on two_words r₀ 0 (records_of tape)
  pub timed : timed_over two_words c (records_from (n - i) tape (8 * i)) t ≡ timed_over two_words r₀.core (records_of tape) t₀
  pub most : AtMost i t

module _ (tape : List ℕ) (n : ℕ) where
  module _ (r₀ : RecordsResult) (t₀ : Timing) where
    pub going_on : (c : Core) (a : List ℕ) (t : Timing) (i : ℕ) (c' : Core) (a' : List ℕ) (t' : Timing) (to : ℕ) → Going tape n r₀ t₀ c a t i → i < to → to ≤ n
        → records_result c' a' ≡ run_on two_words (records_result c a) (2 * i) (records_from (to - i) tape (8 * i)) → t' ≡ timed_over two_words c (records_from (to - i) tape (8 * i)) t → Going tape n r₀ t₀ c' a' t' to
    going_on c a t i c' a' t' to G l m er et =
        let le : i ≤ to = omega (arith, l) in
        let xs = records_from (to - i) tape (8 * i) in
        let ys = records_from (n - to) tape (8 * to) in
        let s : i + length xs ≡ to = omega (arith, l, length_records (to - i) tape (8 * i)) in
        record {
          few = m;
          kept = subst (λ (q : RecordsResult). Kept two_words q.core) (sym er) (kept_run xs (records_result c a) (2 * i) G.kept);
          run = ap (λ (q : RecordsResult). run_on two_words q (2 * to) ys) er ∙ run-parts tape i to n le m (records_result c a) ∙ G.run;
          timed = ap (λ (q : RecordsResult). timed_over two_words q.core ys t') er
              ∙ ap (λ (q : Timing). timed_over two_words (run_on two_words (records_result c a) (2 * i) xs).core ys q) et
              ∙ timed_parts tape i to n le m (records_result c a) t
              ∙ G.timed;
          most = subst (λ (q : Timing). AtMost to q) (sym et) (subst (λ (k : ℕ). AtMost k (timed_over two_words c xs t)) s (timed_over_most two_words two_pools c xs i t G.most));
        }

    pub going_ends : (c : Core) (a : List ℕ) (t : Timing) (i : ℕ) → Going tape n r₀ t₀ c a t i → n ≤ i → (records_result c a ≡ run_on two_words r₀ 0 (records_of tape)) × (t ≡ timed_over two_words r₀.core (records_of tape) t₀)
    unfolding records_from timed_over
    going_ends c a t i G l =
        let z : n - i ≡ 0 = omega (arith, l) in
        (sym (finish tape n (records_result c a) i (2 * i) (8 * i) l) ∙ G.run, ap (λ (m : ℕ). timed_over two_words c (records_from m tape (8 * i)) t) (sym z) ∙ G.timed)
