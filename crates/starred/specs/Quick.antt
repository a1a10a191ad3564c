-- The entries in fewer steps, for computed tables. Where the state is known to be sound, as after a start (demand 2), the check need not be
-- computed to know what they do.
use Rattle.soundness.specs.Soundness.{Checked}
use Rattle.soundness.specs.declared.CheckError.{CheckError}
use Rattle.soundness.specs.declared.CheckError.TheVariants.{NoRoom}
use Rattle.std.specs.Prelude.{◌≡◌, refl, Bool, true, cond, List, [], ◌∷◌, map, ℕ, zero, suc, ◌+◌, ◌/◌, length, get_or, drop, eqb, leb, ltb, Err, None, Ok}
use Rattle.std.proofs.Common.{sym, ap, ap₂, ◌∙◌, inl, inr, arith, length-drop, get_or-drop, drop-drop, eqb-true}
use Rattle.words.specs.Tests.{decided, ltb_same}
use Rattle.soundness.specs.Soundness.{checked, cleared}
use Rattle.soundness.specs.Sentence.{all_of}
use Rattle.soundness.proofs.Example.{rest_quick, rest_quick_lem, free_quick, free_quick_lem, sentences_by}
use Rattle.soundness.proofs.Theory.Sentences.{sound_is_all}
use Rattle.model.specs.Record.{Decoded, little, record_of, decode_at}
use Rattle.semantics.specs.declared.Refusal.{Refusal}
use Rattle.semantics.specs.declared.Refusal.TheVariants.{Tape, Work, Lengths}
use Rattle.semantics.specs.Entries.{State, fits, numbers_of, totals_of, core_of, is_sound, chain_free, OutsideResult, outside_refused, outside_checked, outside_with, outside_on, records_from, records_result, run_on, TapeResult, tape_done, tape_refused, tape_checked, unfit_tape, tape_with, tape_on}
use Rattle.semantics.specs.Calls.{Start, start_result, HostCall, outside, tape, StateAndPool, after_start, outside_result, tape_result, after_call, Run, call, begun, run_after, run_of}
use Rattle.semantics.specs.Promises.{Fits}
use Rattle.semantics.proofs.Theory.Fitting.{fits_true}
use Rattle.semantics.proofs.Theory.Lengths.{start_fits, call_fits}
use Rattle.semantics.proofs.Theory.Starts.{started_fit}
use Rattle.semantics.proofs.Theory.SoundRuns.{sound_call}
use Rattle.semantics.proofs.Theory.StartedRuns.{plain_sound}
use Rattle.soundness.specs.Layout.{two_words}
use Rattle.semantics.proofs.Theory.TwoPools.{two_pools}

-- ---- the records of a tape, each decoded at the end of the one before it

abbrev records_quick : ℕ → List ℕ → List Decoded
records_quick zero bytes = []
records_quick (suc k) bytes = decode_at bytes 0 ∷ records_quick k (drop 8 bytes)

decode_drop : (bytes : List ℕ) (at : ℕ) → decode_at bytes at ≡ decode_at (drop at bytes) 0
unfolding decode_at
decode_drop bytes at i =
    cond (long i) None (record_of (kind i) (byte 1 i) (little (byte 2 i ∷ byte 3 i ∷ [])) (little (byte 4 i ∷ byte 5 i ∷ byte 6 i ∷ byte 7 i ∷ [])))
  where
    byte : (j : ℕ) → get_or bytes (at + j) 0 ≡ get_or (drop at bytes) j 0
    byte j = sym (get_or-drop at bytes j 0)

    kind : get_or bytes at 0 ≡ get_or (drop at bytes) 0 0
    kind = ap (λ z. get_or bytes z 0) (omega arith) ∙ byte 0

    long : ltb (length bytes) (at + 8) ≡ ltb (length (drop at bytes)) 8
    long = ltb_same {a = length bytes} {b = at + 8} {c = length (drop at bytes)} {d = 8} (λ a. omega (arith, length-drop at bytes), λ a. omega (arith, length-drop at bytes))

records_quick_lem : (k : ℕ) (bytes : List ℕ) (at : ℕ) → records_from k bytes at ≡ records_quick k (drop at bytes)
unfolding records_from
records_quick_lem zero bytes at = refl
records_quick_lem (suc k) bytes at = ap₂ (λ d ds. d ∷ ds) (decode_drop bytes at) (records_quick_lem k bytes (at + 8) ∙ ap (records_quick k) (sym (drop-drop 8 at bytes)))

-- ---- soundness, with the sentences on the deques' places and on the free ones in fewer steps

abbrev sound_with : Bool → Bool → State → List ℕ → Bool
sound_with rest free s ws = all_of (sentences_by two_words rest free (numbers_of s) (totals_of s) s.deques s.frames ws)

abbrev pub sound_quick : State → List ℕ → Bool
sound_quick s ws = sound_with (rest_quick s.deques s.frames) (free_quick s.frames (numbers_of s).free_place) s ws

pub sound_quick_lem : (s : State) (ws : List ℕ) → is_sound two_words s ws ≡ sound_quick s ws
sound_quick_lem s ws =
    sound_is_all two_words (numbers_of s) (totals_of s) s.deques s.frames ws
    ∙ (λ i. sound_with (rest_quick_lem s.deques s.frames i) (free_quick_lem s.frames (numbers_of s).free_place i) s ws)

-- ---- the check's answer, given whether state and pool are sound

abbrev pub checked_by : Bool → StateAndPool → List ℕ → Checked
checked_by b h work = cond (leb (numbers_of h.state).nodes (length work)) (cond b (Ok (chain_free two_words h.state h.pool)) (Err CheckError.Unsound)) (Err NoRoom)

-- what a tape of these records does then
abbrev tape_after : Checked → StateAndPool → List Decoded → (work answers : List ℕ) → TapeResult
tape_after (Err NoRoom) h ds work answers = tape_refused h.state h.pool work answers Work
tape_after (Err CheckError.Unsound) h ds work answers = tape_refused h.state h.pool (cleared (numbers_of h.state).nodes work) answers Refusal.Unsound
tape_after (Ok k) h ds work answers = tape_done (run_on two_words (records_result (core_of h.state h.pool k) answers) 0 ds) (cleared (numbers_of h.state).nodes work)

tape-after : (k : Checked) (h : StateAndPool) (bytes work answers : List ℕ)
    → tape_checked two_words k h.state h.pool work bytes answers ≡ tape_after k h (records_quick (length bytes / 8) bytes) work answers
tape-after (Err NoRoom) h bytes work answers = refl
tape-after (Err CheckError.Unsound) h bytes work answers = refl
tape-after (Ok k) h bytes work answers = ap (λ ds. tape_after (Ok k) h ds work answers) (records_quick_lem (length bytes / 8) bytes 0)

abbrev pub tape_by : Bool → StateAndPool → (bytes work answers : List ℕ) → TapeResult
tape_by b h bytes work answers =
    cond (fits h.state)
    (cond (unfit_tape bytes answers) (tape_refused h.state h.pool work answers Tape) (tape_after (checked_by b h work) h (records_quick (length bytes / 8) bytes) work answers))
    (tape_refused h.state h.pool work answers Lengths)

abbrev pub outside_by : Bool → StateAndPool → (kind worker field value : ℕ) (work : List ℕ) → OutsideResult
outside_by b h kind worker field value work =
    cond (fits h.state) (outside_checked two_words (checked_by b h work) h.state h.pool work (record_of kind worker field value)) (outside_refused h.state h.pool work Lengths)

pub tape_by_lem : {b : Bool} (h : StateAndPool) (bytes work answers : List ℕ) → is_sound two_words h.state h.pool ≡ b → tape_result two_words h bytes work answers ≡ tape_by b h bytes work answers
unfolding tape_on tape_with checked
tape_by_lem h bytes work answers e =
    ap (λ o. cond (fits h.state) (cond (unfit_tape bytes answers) (tape_refused h.state h.pool work answers Tape) o) (tape_refused h.state h.pool work answers Lengths))
    (tape-after (checked_by (is_sound two_words h.state h.pool) h work) h bytes work answers)
    ∙ ap (λ v. tape_by v h bytes work answers) e

pub outside_by_lem : {b : Bool} (h : StateAndPool) (kind worker field value : ℕ) (work : List ℕ) → is_sound two_words h.state h.pool ≡ b
    → outside_result two_words h kind worker field value work ≡ outside_by b h kind worker field value work
unfolding outside_on outside_with checked
outside_by_lem h kind worker field value work e = ap (λ v. outside_by v h kind worker field value work) e

-- ---- steps and tapes, one after the other

abbrev pub after_calls : StateAndPool → List HostCall → StateAndPool
after_calls h [] = h
after_calls h (c ∷ cs) = after_calls (after_call two_words h c) cs

run_now : (cs : List HostCall) (r : Run) → (run_of two_words r (map call cs)).now ≡ after_calls r.now cs
run_now [] r = refl
run_now (c ∷ cs) r = run_now cs (run_after two_words r (call c))

pub after-sound : (b : Start) (cs : List HostCall) → (start_result two_words b).result ≡ 0 → is_sound two_words (after_calls (after_start two_words b) cs).state (after_calls (after_start two_words b) cs).pool ≡ true
after-sound b cs e = ap (λ (h : StateAndPool). is_sound two_words h.state h.pool) (sym (run_now cs (begun (after_start two_words b)))) ∙ plain_sound two_words two_pools b cs e

-- ---- a tape after a start

abbrev pub quick_tape : Start → (bytes work answers : List ℕ) → TapeResult
quick_tape b bytes work answers = cond (eqb (start_result two_words b).result 0) (tape_by true (after_start two_words b) bytes work answers) (tape_result two_words (after_start two_words b) bytes work answers)

pub tape_quick : (b : Start) (bytes work answers : List ℕ) → tape_result two_words (after_start two_words b) bytes work answers ≡ quick_tape b bytes work answers
tape_quick b bytes work answers = elim (decided (eqb (start_result two_words b).result 0)) [
  | inl e ↦
      let a = eqb-true (start_result two_words b).result 0 e in
      rw e (tape_by_lem (after_start two_words b) bytes work answers (after-sound b [] a))
  | inr e ↦ rw e refl
]

-- ---- calls after a start

abbrev quick_call : StateAndPool → HostCall → StateAndPool
quick_call h (outside kind worker field value work) = let o : OutsideResult = outside_by true h kind worker field value work in record { state = o.state; pool = o.pool }
quick_call h (tape bytes work answers) = let o : TapeResult = tape_by true h bytes work answers in record { state = o.state; pool = o.pool }

call_quick : (h : StateAndPool) (c : HostCall) → is_sound two_words h.state h.pool ≡ true → after_call two_words h c ≡ quick_call h c
call_quick h (outside kind worker field value work) e = ap (λ (o : OutsideResult). record { state = o.state; pool = o.pool }) (outside_by_lem h kind worker field value work e)
call_quick h (tape bytes work answers) e = ap (λ (o : TapeResult). record { state = o.state; pool = o.pool }) (tape_by_lem h bytes work answers e)

abbrev pub quick_calls : StateAndPool → List HostCall → StateAndPool
quick_calls h [] = h
quick_calls h (c ∷ cs) = quick_calls (quick_call h c) cs

calls_quick : (cs : List HostCall) (h : StateAndPool) → Fits h.state → is_sound two_words h.state h.pool ≡ true → after_calls h cs ≡ quick_calls h cs
calls_quick [] h f e = refl
calls_quick (c ∷ cs) h f e =
    calls_quick cs (after_call two_words h c) (call_fits two_words two_pools h c f) (sound_call two_words two_pools h c (fits_true h.state f) e) ∙ ap (λ g. quick_calls g cs) (call_quick h c e)

pub after_quick : (b : Start) (cs : List HostCall) → (start_result two_words b).result ≡ 0 → after_calls (after_start two_words b) cs ≡ quick_calls (after_start two_words b) cs
after_quick b cs e =
    let A = started_fit two_words b.parts b.workers b.values b.pool e in
    calls_quick cs (after_start two_words b) (start_fits two_words two_pools b.parts A.lengths b.workers b.values b.pool) (after-sound b [] e)
