-- The fields of a step, cut to what a record can hold: no answer changes. A kind above 7 is no kind, there are 3 reducers, and in a sound state there are
-- at most 8 workers and 256 splitters.
use Rattle.soundness.specs.Soundness.{Checked}
use Rattle.soundness.specs.declared.CheckError.{CheckError}
use Rattle.soundness.specs.declared.CheckError.TheVariants.{NoRoom}
use Rattle.std.specs.Prelude.{◌≡◌, Bool, true, false, not, ◌&&◌, List, [], ◌∷◌, ℕ, ◌≤◌, ◌<◌, min, ltb, leb, length, Err, None, Ok, Some}
use Rattle.std.proofs.Math.Path.{refl, ap}
use Rattle.std.proofs.Common.{sym, ◌∙◌, inl, inr, arith, le-ltb, eq-eqb, ne_eqb}
use Rattle.std.proofs.Math.Bool.{cond}
use Rattle.std.proofs.Math.Decide.{dec_lt, ℕ_discrete}
use Rattle.std.proofs.Math.Dec.{eqb}
use Rattle.words.specs.Tests.{decided}
use Rattle.frames.specs.declared.Frame.{Frame}
use Rattle.soundness.specs.declared.Numbers.{Numbers}
use Rattle.soundness.specs.Soundness.{sound, checked, cleared}
use Rattle.model.specs.declared.Step.{Step}
use Rattle.model.specs.declared.Step.TheVariants.{Spawn, Return, Steal, Sync, Read, Write, Fold}
use Rattle.model.specs.Steps.{first_true, reducers}
use Rattle.model.specs.Record.{Decoded, valid_if, record_of}
use Rattle.semantics.specs.declared.Refusal.TheVariants.{NoWorker, MainReturned, ThiefBusy, NoVictim, NoSplitter, NoReducer, Lengths}
use Rattle.semantics.specs.Core.{Core, StepResult, no_worker, all_idle, idle, judged, acting_tests, step_on}
use Rattle.semantics.specs.Entries.{State, numbers_of, totals_of, core_of, checked_state, fits, record_on, OutsideResult, outside_done, outside_refused, outside_checked, outside_with, outside_on}
use Rattle.semantics.proofs.Theory.Refusals.{refused_by}
use Rattle.soundness.proofs.Theory.Sentences.{sound_facts}
use Rattle.soundness.specs.Layout.{two_words}

-- ---- numbers

-- cut to m, a number is told from one below m as before
same_test : (x m i : ℕ) → i < m → eqb (min x m) i ≡ eqb x i
same_test x m i h = elim (ℕ_discrete x i) [
  | yes e ↦ eq-eqb (min x m) i (omega arith) ∙ sym (eq-eqb x i e)
  | no e ↦ ne_eqb (min x m) i (λ z. e (omega arith)) ∙ sym (ne_eqb x i e)
]

-- ---- the steps of a core

abbrev worker_of : Step → ℕ
worker_of (Spawn w) = w
worker_of (Return w) = w
worker_of (Steal w v) = w
worker_of (Sync w) = w
worker_of (Read w x) = w
worker_of (Write w x v) = w
worker_of (Fold w r v) = w

-- the choices of record_of
abbrev kinds : ℕ → ℕ → ℕ → ℕ → List (Bool × Decoded)
kinds kind w x v =
    (eqb kind 1, valid_if (eqb x 0 && eqb v 0) (Spawn w))
    ∷ (eqb kind 2, valid_if (eqb x 0 && eqb v 0) (Return w))
    ∷ (eqb kind 3, valid_if (eqb v 0) (Steal w x))
    ∷ (eqb kind 4, valid_if (eqb x 0 && eqb v 0) (Sync w))
    ∷ (eqb kind 5, valid_if (eqb v 0) (Read w x))
    ∷ (eqb kind 6, Some (Write w x v))
    ∷ (eqb kind 7, Some (Fold w x v))
    ∷ []

module _ (c : Core) where
  no_worker_lem : (st : Step) → ltb (worker_of st) c.head.numbers.workers ≡ false → step_on two_words c st ≡ refused_by c NoWorker
  unfolding step_on
  no_worker_lem (Spawn w) e = rw e
  no_worker_lem (Return w) e = rw e
  no_worker_lem (Steal w v) e = rw e
  no_worker_lem (Sync w) e = rw e
  no_worker_lem (Read w x) e = rw e
  no_worker_lem (Write w x v) e = rw e
  no_worker_lem (Fold w r v) e = rw e

  no_victim : (w v : ℕ) → ltb v c.head.numbers.workers ≡ false
      → step_on two_words c (Steal w v) ≡ judged ((no_worker c w, NoWorker) ∷ (all_idle c, MainReturned) ∷ (not (idle c w), ThiefBusy) ∷ []) c (refused_by c NoVictim)
  unfolding step_on
  no_victim w v e = rw e

  no_read : (w x : ℕ) → ltb x c.head.numbers.splitters ≡ false → step_on two_words c (Read w x) ≡ judged (acting_tests c w) c (refused_by c NoSplitter)
  unfolding step_on
  no_read w x e = rw e

  no_write : (w x v : ℕ) → ltb x c.head.numbers.splitters ≡ false → step_on two_words c (Write w x v) ≡ judged (acting_tests c w) c (refused_by c NoSplitter)
  unfolding step_on
  no_write w x v e = rw e

  no_fold : (w r v : ℕ) → ltb r reducers ≡ false → step_on two_words c (Fold w r v) ≡ judged (acting_tests c w) c (refused_by c NoReducer)
  unfolding step_on
  no_fold w r v e = rw e

  -- a number cut to m: past its bound n the step is refused, whatever the number
  cut : (f : ℕ → Step) (d : StepResult) (x m n : ℕ) → n ≤ m → ((y : ℕ) → ltb y n ≡ false → step_on two_words c (f y) ≡ d) → step_on two_words c (f (min x m)) ≡ step_on two_words c (f x)
  cut f d x m n few past = elim (dec_lt x n) [
    | yes h ↦ ap (λ (y : ℕ). step_on two_words c (f y)) (omega arith)
    | no h ↦ past (min x m) (le-ltb (min x m) n (omega arith)) ∙ sym (past x (le-ltb x n (omega arith)))
  ]

  -- ---- a record's step

  -- in order, the tests are equal, and what the records do
  data Alike : List (Bool × Decoded) → List (Bool × Decoded) → Type 0 where
    end : Alike [] []
    also : {t u : Bool × Decoded} {ts us : List (Bool × Decoded)} → t.0 ≡ u.0 → record_on two_words c t.1 ≡ record_on two_words c u.1 → Alike ts us → Alike (t ∷ ts) (u ∷ us)

  firsts : {ts us : List (Bool × Decoded)} → Alike ts us → record_on two_words c (first_true None ts) ≡ record_on two_words c (first_true None us)
  firsts end = refl
  firsts (also {u = u} e d a) = elim (decided u.0) [ inl z ↦ rw (e ∙ z, z) d | inr z ↦ rw (e ∙ z, z) (firsts a) ]

  valid_cut : (b b' : Bool) (st st' : Step) → b ≡ b' → step_on two_words c st ≡ step_on two_words c st' → record_on two_words c (valid_if b st) ≡ record_on two_words c (valid_if b' st')
  valid_cut b b' st st' e h = elim (decided b') [ inl z ↦ rw (e ∙ z, z) h | inr z ↦ rw (e ∙ z, z) ]

  module _ (workers_le : c.head.numbers.workers ≤ 8) (splitters_le : c.head.numbers.splitters ≤ 256) (w x v : ℕ) where
    worker_cut : (f : ℕ → Step) → ((y : ℕ) → ltb y c.head.numbers.workers ≡ false → step_on two_words c (f y) ≡ refused_by c NoWorker) → step_on two_words c (f (min w 255)) ≡ step_on two_words c (f w)
    worker_cut f past = cut f (refused_by c NoWorker) w 255 c.head.numbers.workers (omega arith) past

    steal_cut : step_on two_words c (Steal (min w 255) (min x 65535)) ≡ step_on two_words c (Steal w x)
    steal_cut =
        worker_cut (λ u. Steal u (min x 65535)) (λ y e. no_worker_lem (Steal y (min x 65535)) e)
        ∙ cut (λ u. Steal w u) _ x 65535 c.head.numbers.workers (omega arith) (no_victim w)

    read_cut : step_on two_words c (Read (min w 255) (min x 65535)) ≡ step_on two_words c (Read w x)
    read_cut =
        worker_cut (λ u. Read u (min x 65535)) (λ y e. no_worker_lem (Read y (min x 65535)) e)
        ∙ cut (λ u. Read w u) _ x 65535 c.head.numbers.splitters (omega arith) (no_read w)

    write_cut : step_on two_words c (Write (min w 255) (min x 65535) v) ≡ step_on two_words c (Write w x v)
    write_cut =
        worker_cut (λ u. Write u (min x 65535) v) (λ y e. no_worker_lem (Write y (min x 65535) v) e)
        ∙ cut (λ u. Write w u v) _ x 65535 c.head.numbers.splitters (omega arith) (λ y e. no_write w y v e)

    fold_cut : step_on two_words c (Fold (min w 255) (min x 65535) v) ≡ step_on two_words c (Fold w x v)
    fold_cut =
        worker_cut (λ u. Fold u (min x 65535) v) (λ y e. no_worker_lem (Fold y (min x 65535) v) e)
        ∙ cut (λ u. Fold w u v) _ x 65535 reducers (omega arith) (λ y e. no_fold w y v e)

    record_cut : (kind : ℕ) → record_on two_words c (record_of (min kind 255) (min w 255) (min x 65535) v) ≡ record_on two_words c (record_of kind w x v)
    unfolding record_of
    record_cut kind =
        let zero_field : eqb (min x 65535) 0 && eqb v 0 ≡ eqb x 0 && eqb v 0 = ap (λ (b : Bool). b && eqb v 0) (same_test x 65535 0 (omega arith)) in
        firsts {ts = kinds (min kind 255) (min w 255) (min x 65535) v} {us = kinds kind w x v}
        (also (same_test kind 255 1 (omega arith)) (valid_cut _ _ _ _ zero_field (worker_cut (λ u. Spawn u) (λ y e. no_worker_lem (Spawn y) e)))
        (also (same_test kind 255 2 (omega arith)) (valid_cut _ _ _ _ zero_field (worker_cut (λ u. Return u) (λ y e. no_worker_lem (Return y) e)))
        (also (same_test kind 255 3 (omega arith)) (valid_cut (eqb v 0) _ _ _ refl steal_cut)
        (also (same_test kind 255 4 (omega arith)) (valid_cut _ _ _ _ zero_field (worker_cut (λ u. Sync u) (λ y e. no_worker_lem (Sync y) e)))
        (also (same_test kind 255 5 (omega arith)) (valid_cut (eqb v 0) _ _ _ refl read_cut)
        (also (same_test kind 255 6 (omega arith)) write_cut
        (also (same_test kind 255 7 (omega arith)) fold_cut end)))))))

-- ---- a step by the fields of a record

checked-sound : (N : Numbers) (ts ds : List ℕ) (fs : List Frame) (ws ks : List ℕ) (k : ℕ) → checked two_words N ts ds fs ws ks ≡ Ok k → sound two_words N ts ds fs ws ≡ true
unfolding checked
checked-sound N ts ds fs ws ks k e = elim (decided (sound two_words N ts ds fs ws)) [
  | inl t ↦ t
  | inr t ↦ elim (decided (leb N.nodes (length ks))) [
    | inl r ↦ absurd (let z : ◌≡◌ {A = ℕ} 0 1 = (let q : (Err CheckError.Unsound) ≡ Ok k = rw (r, t) at e in cc) in omega arith)
    | inr r ↦ absurd (let z : ◌≡◌ {A = ℕ} 0 1 = (let q : (Err NoRoom) ≡ Ok k = rw r at e in cc) in omega arith)
  ]
]

module _ (s : State) (ws ks : List ℕ) (kind w x v : ℕ) where
  check_cut : (k : Checked) → checked_state two_words s ws ks ≡ k
      → outside_checked two_words k s ws ks (record_of (min kind 255) (min w 255) (min x 65535) v) ≡ outside_checked two_words k s ws ks (record_of kind w x v)
  check_cut (Err NoRoom) e = refl
  check_cut (Err CheckError.Unsound) e = refl
  check_cut (Ok k) e =
      let F = (sound_facts two_words (numbers_of s) (totals_of s) s.deques s.frames ws (checked-sound (numbers_of s) (totals_of s) s.deques s.frames ws ks k e)).numbers in
      ap (λ d. outside_done d (cleared (numbers_of s).nodes ks)) (record_cut (core_of s ws k) F.workers_le F.splitters_le w x v kind)

  -- the fields cut to 8, 8 and 16 bits
  with_cut : outside_with two_words s ws ks (record_of (min kind 255) (min w 255) (min x 65535) v) ≡ outside_with two_words s ws ks (record_of kind w x v)
  unfolding outside_with
  with_cut = check_cut (checked_state two_words s ws ks) refl

  pub same_cut : outside_on two_words s ws ks (record_of (min kind 255) (min w 255) (min x 65535) v) ≡ outside_on two_words s ws ks (record_of kind w x v)
  unfolding outside_on
  same_cut = ap (λ (o : OutsideResult). cond (fits s) o (outside_refused s ws ks Lengths)) with_cut
