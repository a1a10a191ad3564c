-- If what a host hands in are words, then all that the engine leaves are words: every entry keeps a state and a pool of words.
use Rattle.soundness.specs.Soundness.{Checked}
use Rattle.soundness.specs.declared.CheckError.{CheckError}
use Rattle.soundness.specs.declared.CheckError.TheVariants.{NoRoom}
use Rattle.std.specs.Prelude.{◌≡◌, Bool, true, false, cond, ◌&&◌, length, get_or, drop, replicate, eqb, ltb, Err, None, Ok, Some}
use Rattle.std.proofs.Common.{sym, subst, arith}
use Rattle.std.proofs.Math.Logic.{inl, inr}
use mathlib.Core.List.{List, [], ◌∷◌, ◌++◌}
use Prim.Native.Nat.{ℕ, zero, suc, ◌+◌, ◌-◌, ◌/◌, ◌≤◌, ◌<◌}
use Rattle.std.proofs.Math.Decide.{ℕ_discrete, dec_lt}
use Rattle.words.specs.Basics.{none}
use Rattle.words.specs.Tests.{decided}
use Rattle.words.specs.Below.{Words, Bytes, below-append, below-take, below-drop, words-set, words-zeros, cond_word}
use Rattle.reducers.specs.Law.{ViewWord}
use Rattle.frames.specs.declared.Frame.{Frame}
use Rattle.frames.specs.Widths.{max_places, deque_words}
use Rattle.frames.specs.Frames.{frame_at, with_root, init_frames}
use Rattle.frames.specs.Deques.{size, bottom}
use Rattle.frames.specs.Steps.{Table, ends_too}
use Rattle.frames.proofs.Theory.Words.{RecordWords as FramesWords, words_view, words-set_frame, words_root, TableWords, words-acting, words-spawn, words-waiting, bottom_word, words-end_frame, words-go_on, words-steal, words-sync, words-fold, words-init_deques}
use Rattle.frames.proofs.Theory.RecordWords.{words-main_frame, words-free_place}
use Rattle.frames.proofs.Theory.Records.{frame_past}
use Rattle.frames.proofs.Theory.Start.{length_init, init_main, init_free_lem}
use Rattle.soundness.specs.declared.Numbers.{Numbers}
use Rattle.soundness.specs.Numbers.{head_count, total_count, number_words, set_free_place}
use Rattle.model.specs.declared.Step.{Step}
use Rattle.model.specs.declared.Step.TheVariants.{Spawn, Return, Steal, Sync, Read, Write, Fold}
use Rattle.model.specs.Record.{Decoded, little, valid_if, record_of, decode_at}
use Rattle.semantics.specs.declared.Refusal.{Refusal}
use Rattle.semantics.specs.Core.{Core, StepResult, table_of, acting_in, with_table, judged, spawn_on, totals_after, end_at, upward, popped, end_bottom, return_on, steal_on, sync_on, read_on, write_on, fold_on, tests_of, done_by, step_on}
use Rattle.semantics.specs.Entries.{State, fits, core_of, state_of, checked_state, whole_nodes, first_numbers, start_accepted, StartResult, record_on, outside_checked, outside_with, outside_on, records_from, records_of, records_result, run_on, unfit_tape, tape_checked, tape_with, tape_on}
use Rattle.semantics.specs.Calls.{Start, after_start, start_result, HostCall, outside, tape, StateAndPool, after_call}
use Rattle.semantics.specs.Demands.{StateWords, HostWords}
use Rattle.semantics.proofs.Theory.Starts.{Fit, started_fit}
use Rattle.soundness.specs.Layout.{Layout}
use Rattle.semantics.proofs.Theory.Pools.{PoolLaws}

-- ---- words of a core, and of a state with a pool

-- the numbers without the totals
abbrev six : Numbers → List ℕ
six s = s.workers ∷ s.splitters ∷ s.nodes ∷ s.free_node ∷ s.free_place ∷ s.places ∷ []

pub record CoreWords (c : Core) : Type 0 where
  pub numbers : Words (six c.head.numbers)
  pub totals : Words c.totals
  pub deques : Words c.deques
  pub frames : FramesWords c.frames
  pub pool : Words c.pool

number_words_lem : (s : Numbers) → s.workers < 4294967296 → s.splitters < 4294967296 → s.nodes < 4294967296 → s.free_node < 4294967296 → s.free_place < 4294967296 → s.places < 4294967296 → Words (six s)
number_words_lem s a b c d e f zero = a
number_words_lem s a b c d e f (suc zero) = b
number_words_lem s a b c d e f (suc (suc zero)) = c
number_words_lem s a b c d e f (suc (suc (suc zero))) = d
number_words_lem s a b c d e f (suc (suc (suc (suc zero)))) = e
number_words_lem s a b c d e f (suc (suc (suc (suc (suc zero))))) = f
number_words_lem s a b c d e f (suc (suc (suc (suc (suc (suc i)))))) = omega arith

-- with the totals among them
with_totals : (s : Numbers) (ts : List ℕ) → Words (six s) → Words ts → Words (number_words s ts)
with_totals s ts h k =
    below-append 4294967296 (s.workers ∷ s.splitters ∷ s.nodes ∷ s.free_node ∷ s.free_place ∷ []) (ts ++ (s.places ∷ [])) (below-take 4294967296 head_count (six s) (omega arith) h)
    (below-append 4294967296 ts (s.places ∷ []) k (below-drop 4294967296 head_count (six s) h))

pub state_words_lem : (c : Core) → CoreWords c → StateWords (state_of c) c.pool
state_words_lem c C =
    record { numbers = with_totals c.head.numbers c.totals C.numbers C.totals; deques = C.deques; frames = C.frames; pool = C.pool }

pub core-words : (s : State) (ws : List ℕ) (k : ℕ) → StateWords s ws → CoreWords (core_of s ws k)
core-words s ws k S =
    record {
      numbers = number_words_lem _ (S.numbers 0) (S.numbers 1) (S.numbers 2) (S.numbers 3) (S.numbers 4) (S.numbers (head_count + total_count));
      totals = below-take 4294967296 total_count (drop head_count s.numbers) (omega arith) (below-drop 4294967296 head_count s.numbers S.numbers);
      deques = S.deques;
      frames = S.frames;
      pool = S.pool;
    }

-- ---- a record: what it stores is a word

abbrev pub RecordWords : Decoded → Type 0
RecordWords (Some (Spawn w)) = Unit {0}
RecordWords (Some (Return w)) = Unit {0}
RecordWords (Some (Steal w v)) = Unit {0}
RecordWords (Some (Sync w)) = Unit {0}
RecordWords (Some (Read w x)) = Unit {0}
RecordWords (Some (Write w x v)) = v < 4294967296
RecordWords (Some (Fold w r v)) = Unit {0}
RecordWords None = Unit {0}

-- each of these
abbrev pub RecordsWords : List Decoded → Type 0
RecordsWords [] = Unit {0}
RecordsWords (d ∷ ds) = RecordWords d × RecordsWords ds

either_words : (b : Bool) (d e : Decoded) → RecordWords d → RecordWords e → RecordWords (cond b d e)
either_words true d e h k = h
either_words false d e h k = k

valid_words : (b : Bool) (st : Step) → RecordWords (Some st) → RecordWords (valid_if b st)
valid_words true st h = h
valid_words false st h = tt

pub outside_words : (kind worker field value : ℕ) → value < 4294967296 → RecordWords (record_of kind worker field value)
unfolding record_of
outside_words kind worker field value h =
    either_words (eqb kind 1) _ _ (valid_words (eqb field 0 && eqb value 0) (Spawn worker) tt)
    (either_words (eqb kind 2) _ _ (valid_words (eqb field 0 && eqb value 0) (Return worker) tt)
    (either_words (eqb kind 3) _ _ (valid_words (eqb value 0) (Steal worker field) tt)
    (either_words (eqb kind 4) _ _ (valid_words (eqb field 0 && eqb value 0) (Sync worker) tt)
    (either_words (eqb kind 5) _ _ (valid_words (eqb value 0) (Read worker field) tt)
    (either_words (eqb kind 6) (Some (Write worker field value)) _ h
    (either_words (eqb kind 7) (Some (Fold worker field value)) None tt tt))))))

decoded_words : (bytes : List ℕ) (at : ℕ) → Bytes bytes → RecordWords (decode_at bytes at)
unfolding decode_at
decoded_words bytes at h =
    let value : ℕ = little (get_or bytes (at + 4) 0 ∷ get_or bytes (at + 5) 0 ∷ get_or bytes (at + 6) 0 ∷ get_or bytes (at + 7) 0 ∷ []) in
    let v : value < 4294967296 = omega (arith, h (at + 4), h (at + 5), h (at + 6), h (at + 7)) in
    either_words (ltb (length bytes) (at + 8)) None _ tt (outside_words _ _ _ value v)

pub tape-words_decoded : (k : ℕ) (bytes : List ℕ) (at : ℕ) → Bytes bytes → RecordsWords (records_from k bytes at)
unfolding records_from
tape-words_decoded zero bytes at h = tt
tape-words_decoded (suc k) bytes at h = (decoded_words bytes at h, tape-words_decoded k bytes (at + 8) h)

-- ---- a return

table-words : (c : Core) → CoreWords c → TableWords (table_of c)
table-words c C = record { deques = C.deques; frames = C.frames; place = C.numbers 4 }

-- another table
table_kept : (c : Core) (t : Table) → CoreWords c → TableWords t → CoreWords (with_table c t)
table_kept c t C T = record { numbers = words-set (six c.head.numbers) 4 _ C.numbers T.place; totals = C.totals; deques = T.deques; frames = T.frames; pool = C.pool }

-- the one result or the other
either_result : (b : Bool) (x y : StepResult) → CoreWords x.core → CoreWords y.core → CoreWords (cond b x y).core
either_result b x y h k = elim (decided b) [ inl e ↦ rw e h | inr e ↦ rw e k ]

popped-words : (c : Core) (w : ℕ) → CoreWords c → CoreWords (popped c w)
popped-words c w C = record { numbers = C.numbers; totals = C.totals; deques = (words-waiting (table_of c) w (table-words c C)).deques; frames = C.frames; pool = C.pool }

-- R-5: the words of the totals are Main's view, at its end
totals_words : (c : Core) (f : Frame) → ViewWord f.view → CoreWords c → Words (totals_after c f)
totals_words c f h C = elim (decided (eqb f.parent none)) [ inl e ↦ rw e (words_view f.view h) | inr e ↦ rw e C.totals ]

module _ (layout : Layout) (pools : PoolLaws layout) where
  end_at-words : (c : Core) (p : ℕ) → p < 4294967296 → CoreWords c → CoreWords (end_at layout c p)
  unfolding end_at
  end_at-words c p h C =
      let f = C.frames p in
      let P = pools.words-release c.head.numbers.nodes c.head.height c.pool c.head.numbers.free_node c.head.free_count (frame_at c.frames p).root C.pool (C.numbers 3) f.root in
      record {
        numbers = words-set (six (set_free_place c.head.numbers p)) 3 _ (words-set (six c.head.numbers) 4 p C.numbers h) P.free;
        totals = totals_words c (frame_at c.frames p) f.view C;
        deques = C.deques;
        frames = words-end_frame c.frames c.head.numbers.free_place p (C.numbers 4) C.frames;
        pool = P.words;
      }

  upward-words : (d : ℕ) (c : Core) (w q : ℕ) → q < 4294967296 → CoreWords c → CoreWords (upward layout d c w q).core
  unfolding upward
  upward-words zero c w q h C = C
  upward-words (suc d) c w q h C =
      either_result (ends_too (frame_at c.frames q)) _ _
      (upward-words d (end_at layout c q) w (frame_at c.frames q).parent (C.frames q).parent (end_at-words c q h C))
      (table_kept c _ C (words-go_on (table_of c) w (table-words c C) q h))

  end_bottom-words : (c : Core) (w : ℕ) → CoreWords c → CoreWords (end_bottom layout c w).core
  unfolding end_bottom
  end_bottom-words c w C =
      let p : ℕ = bottom c.deques w in
      let c' : Core = end_at layout (popped c w) p in
      let E : CoreWords c' = end_at-words (popped c w) p (bottom_word c.deques w C.deques) (popped-words c w C) in
      either_result (eqb (size c'.deques w) 0) _ _ (upward-words (acting_in c w).depth c' w (acting_in c w).parent (words-acting (table_of c) w (table-words c C)).parent E) E

  return_words : (c : Core) (w : ℕ) → CoreWords c → CoreWords (return_on layout c w).core
  unfolding return_on
  return_words c w C =
      either_result (eqb (acting_in c w).outstanding 0) _ _ (end_bottom-words c w C) (table_kept c _ C (words-waiting (table_of c) w (table-words c C)))

  -- ---- a step

  module _ (c : Core) (C : CoreWords c) where
    root_word : (w : ℕ) → (acting_in c w).root < 4294967296
    root_word w = (words-acting (table_of c) w (table-words c C)).root

    done_words_lem : (st : Step) → RecordWords (Some st) → CoreWords (done_by layout c st).core
    done_words_lem (Spawn w) h =
        let T = words-spawn (table_of c) w (table-words c C) in
        unfold spawn_on in
        record {
          numbers = words-set (six c.head.numbers) 4 _ C.numbers T.place;
          totals = C.totals;
          deques = T.deques;
          frames = T.frames;
          pool = pools.words-retain c.pool _ C.pool;
        }
    done_words_lem (Return w) h = return_words c w C
    done_words_lem (Steal w v) h =
        let T = words-steal (table_of c) w v (table-words c C) in
        unfold steal_on in
        record { numbers = C.numbers; totals = C.totals; deques = T.deques; frames = C.frames; pool = C.pool }
    done_words_lem (Sync w) h =
        let T = words-sync (table_of c) w (table-words c C) in
        unfold sync_on in
        record { numbers = C.numbers; totals = C.totals; deques = T.deques; frames = T.frames; pool = C.pool }
    done_words_lem (Read w x) h = unfold read_on in C
    done_words_lem (Write w x v) h =
        let P = pools.words-write c.head.height c.pool c.head.numbers.free_node c.head.free_count (acting_in c w).root x v C.pool (C.numbers 3) (root_word w) h in
        unfold write_on in
        record {
          numbers = words-set (six c.head.numbers) 3 _ C.numbers P.free;
          totals = C.totals;
          deques = C.deques;
          frames = words-set_frame c.frames (bottom c.deques w) (with_root (acting_in c w) _) C.frames (words_root (acting_in c w) (words-acting (table_of c) w (table-words c C)) _ P.root);
          pool = P.words;
        }
    done_words_lem (Fold w r v) h =
        let T = words-fold (table_of c) w (table-words c C) r v in
        unfold fold_on in
        record { numbers = C.numbers; totals = C.totals; deques = C.deques; frames = T.frames; pool = C.pool }

    judged-words : (ts : List (Bool × Refusal)) (d : StepResult) → CoreWords d.core → CoreWords (judged ts c d).core
    judged-words [] d D = D
    judged-words (t ∷ ts) d D = elim (decided t.0) [ inl e ↦ rw e C | inr e ↦ rw e (judged-words ts d D) ]

    step_words : (st : Step) → RecordWords (Some st) → CoreWords (step_on layout c st).core
    unfolding step_on
    step_words st h = judged-words (tests_of layout c st) (done_by layout c st) (done_words_lem st h)

  pub record_words_lem : (c : Core) (d : Decoded) → CoreWords c → RecordWords d → CoreWords (record_on layout c d).core
  record_words_lem c (Some st) C h = step_words c C st h
  record_words_lem c None C h = C

  pub run-words : (ds : List Decoded) (c : Core) (answers : List ℕ) (k : ℕ) → CoreWords c → RecordsWords ds → CoreWords (run_on layout (records_result c answers) k ds).core
  unfolding run_on
  run-words [] c answers k C h = C
  run-words (d ∷ ds) c answers k C h = run-words ds (record_on layout c d).core _ (k + 2) (record_words_lem c d C h.0) h.1

-- ---- a start

-- the first table, whatever the lent one holds
first-words : (fs : List Frame) → 1 ≤ length fs → length fs ≤ max_places → FramesWords (init_frames fs)
first-words fs some few p = elim (ℕ_discrete p 0) [
  | yes e ↦ rw (e, init_main fs some few) words-main_frame
  | no e ↦ elim (dec_lt p (length fs)) [
    | yes b ↦ rw (init_free_lem fs some few p (omega arith) b) (words-free_place _ (cond_word (eqb p (length fs - 1)) none (suc p) (omega arith) (omega arith)))
    | no b ↦ rw (frame_past (init_frames fs) p (omega (arith, length_init fs))) (words-free_place 0 (omega arith))
  ]
]

module _ (layout : Layout) (pools : PoolLaws layout) where
  pub start-words : (workers : ℕ) (vs : List ℕ) (fs : List Frame) (ws : List ℕ) → Words vs → Words ws → Fit layout workers vs fs ws → StateWords (start_accepted layout workers vs fs ws).state (start_accepted layout workers vs fs ws).pool
  start-words workers vs fs ws h k F =
      let P = pools.words-start ws (length vs) (whole_nodes layout ws) vs k h in
      let s : Numbers = first_numbers workers (length vs) (whole_nodes layout ws) _ (length fs) in
      let free : s.free_place < 4294967296 = cond_word (eqb (length fs) 1) none 1 (omega arith) (omega arith) in
      record {
        numbers =
            with_totals s (replicate total_count 0)
            (number_words_lem s (omega (arith, F.workers_le)) (omega (arith, F.values_le)) (omega (arith, F.nodes_le)) P.1 free (omega (arith, F.places_le))) (words-zeros total_count);
        deques = words-init_deques deque_words;
        frames = first-words fs F.places_positive F.places_le;
        pool = P.0;
      }

  -- an accepted start, whatever the lent parts hold
  pub started_words : (b : Start) → (start_result layout b).result ≡ 0 → Words b.values → Words b.pool → StateWords (after_start layout b).state (after_start layout b).pool
  started_words b e h k =
      let A = started_fit layout b.parts b.workers b.values b.pool e in
      subst (λ (o : StartResult). StateWords o.state o.pool) (sym A.result) (start-words b.workers b.values b.parts.frames b.pool h k A.fit)

  -- ---- calls

  module _ (s : State) (ws work : List ℕ) (S : StateWords s ws) where
    outside_checked_lem : (k : Checked) (d : Decoded) → RecordWords d → StateWords (outside_checked layout k s ws work d).state (outside_checked layout k s ws work d).pool
    outside_checked_lem (Err NoRoom) d h = S
    outside_checked_lem (Err CheckError.Unsound) d h = S
    outside_checked_lem (Ok n) d h = state_words_lem _ (record_words_lem layout pools (core_of s ws n) d (core-words s ws n S) h)

    outside_kept : (d : Decoded) → RecordWords d → StateWords (outside_on layout s ws work d).state (outside_on layout s ws work d).pool
    unfolding outside_on outside_with
    outside_kept d h = elim (decided (fits s)) [ inl e ↦ rw e (outside_checked_lem (checked_state layout s ws work) d h) | inr e ↦ rw e S ]

    module _ (bytes answers : List ℕ) (h : Bytes bytes) where
      tape-checked : (k : Checked) → StateWords (tape_checked layout k s ws work bytes answers).state (tape_checked layout k s ws work bytes answers).pool
      tape-checked (Err NoRoom) = S
      tape-checked (Err CheckError.Unsound) = S
      tape-checked (Ok n) = state_words_lem _ (run-words layout pools (records_of bytes) (core_of s ws n) answers 0 (core-words s ws n S) (tape-words_decoded (length bytes / 8) bytes 0 h))

      tape_kept : StateWords (tape_on layout s ws work bytes answers).state (tape_on layout s ws work bytes answers).pool
      unfolding tape_on tape_with
      tape_kept =
          elim (decided (fits s)) [
            | inl e ↦ elim (decided (unfit_tape bytes answers)) [ inl d ↦ rw (e, d) S | inr d ↦ rw (e, d) (tape-checked (checked_state layout s ws work)) ]
            | inr e ↦ rw e S
          ]

  -- refused or not
  pub call_words : (h : StateAndPool) (call : HostCall) → StateWords h.state h.pool → HostWords call → StateWords (after_call layout h call).state (after_call layout h call).pool
  call_words h (outside kind worker field value work) S p = outside_kept h.state h.pool work S (record_of kind worker field value) (outside_words kind worker field value p)
  call_words h (tape bytes work answers) S p = tape_kept h.state h.pool work S bytes answers p
