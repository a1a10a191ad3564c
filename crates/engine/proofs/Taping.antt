-- A tape's ways out, over plain variables.
use Rattle.std.specs.Prelude.{Err, Ok}
use mathlib.Core.Path.{◌≡◌, refl, sym, ap, ◌∙◌}
use mathlib.Core.Bool.{Bool, true, false, not}
use mathlib.Core.List.{List, []}
use Prim.Native.Nat.{ℕ, ◌*◌, ◌/◌, ◌%◌, ◌≤◌}
use lib.Dec.{eqb, ltb}
use lib.ListN.{length}
use Rattle.words.specs.Tests.{neither, ge_of}
use Rattle.frames.specs.declared.Frame.{Frame}
use Rattle.soundness.specs.declared.CheckError.{CheckError}
use Rattle.soundness.specs.declared.CheckError.TheVariants.{NoRoom}
use Rattle.soundness.specs.Soundness.{Checked, cleared}
use Rattle.soundness.specs.Numbers.{numbers_in, totals_in}
use Rattle.semantics.specs.declared.Refusal.TheVariants.{Tape}
use Rattle.semantics.specs.Answers.{refusal_number, check_refusal}
use Rattle.semantics.specs.Entries.{State, core_of, TapeResult, tape_checked, tape_with, unfit_tape, records_result, records_from, run_on, records_of}
use Rattle.semantics.specs.Promises.{parts, Fits, IsTape}
use Rattle.semantics.specs.Ranges.{Kept}
use Rattle.semantics.proofs.Theory.Fitting.{state_back, totals_long}
use Rattle.semantics.proofs.Theory.WorkSlice.{no_room_keeps}
use Rattle.semantics.proofs.Theory.Kept.{kept_start}
use Rattle.engine.specs.Promises.{IsCheck, IsRun}
use Rattle.soundness.specs.Layout.{two_words}

-- the check found the parts sound
pub found_sound : (ns ds : List ℕ) (fs : List Frame) (ws ks ks' : List ℕ) (k : Checked) (free : ℕ) → Fits (parts ns ds fs) → IsCheck two_words (parts ns ds fs) ws ks ks' k → k ≡ Ok free → Kept two_words (core_of (parts ns ds fs) ws free)
found_sound ns ds fs ws ks ks' k free F ek e = kept_start two_words (numbers_in ns) (totals_in ns) ds fs ws ks free (totals_long (parts ns ds fs) F) F.deques (sym e ∙ ek.1)

-- a tape that fits has room for its answers
pub fit_answers : (bytes rs : List ℕ) (b : Bool) → b ≡ unfit_tape bytes rs → b ≡ false → 2 * (length bytes / 8) ≤ length rs
fit_answers bytes rs b e f = ge_of (neither (not (eqb (length bytes % 8) 0)) (ltb (length rs) (2 * (length bytes / 8))) (sym e ∙ f)).1

abbrev result : State → List ℕ → List ℕ → List ℕ → ℕ → TapeResult
result s ws ks rs r = record { state = s; pool = ws; work = ks; answers = rs; result = r }

by_result : (o : TapeResult) (ns ds : List ℕ) (fs : List Frame) (ws ks rs : List ℕ) (r : ℕ) → result (parts ns ds fs) ws ks rs r ≡ o → IsTape o ns ds fs ws ks rs r
by_result o ns ds fs ws ks rs r e =
    record { result = ap (λ q. q.result) e; state = ap (λ q. q.state) e; pool = ap (λ q. q.pool) e; work = ap (λ q. q.work) e; answers = ap (λ q. q.answers) e }

no_records : (bytes : List ℕ) → length bytes ≡ 0 → records_of bytes ≡ []
unfolding records_from
no_records bytes z = rw z

module _ (ns ds : List ℕ) (fs : List Frame) (ws ks bytes rs : List ℕ) (b : Bool) (eb : b ≡ unfit_tape bytes rs) where
  abbrev s : State
  s = parts ns ds fs

  pub wrong_tape : b ≡ true → IsTape (tape_with two_words (parts ns ds fs) ws ks bytes rs) ns ds fs ws ks rs (refusal_number Tape)
  unfolding tape_with
  wrong_tape t = rw (sym eb ∙ t) (by_result _ ns ds fs ws ks rs (refusal_number Tape) refl)

  module _ (fit : b ≡ false) (k : Checked) (ks' : List ℕ) (ek : IsCheck two_words (parts ns ds fs) ws ks ks' k) where
    -- the tape is what the check's answer says
    by_check : (o : TapeResult) → o ≡ tape_checked two_words k s ws ks bytes rs → o ≡ tape_with two_words s ws ks bytes rs
    unfolding tape_with
    by_check o e = rw (sym eb ∙ fit) (e ∙ ap (λ (j : Checked). tape_checked two_words j s ws ks bytes rs) ek.1)

    refused_by_lem : (e : CheckError) → k ≡ Err e → result s ws ks' rs (refusal_number (check_refusal e)) ≡ tape_checked two_words k s ws ks bytes rs
    refused_by_lem NoRoom e =
        let kept : ks' ≡ ks = ek.0 ∙ no_room_keeps two_words (numbers_in ns) (totals_in ns) ds fs ws ks (sym ek.1 ∙ e) in
        rw (e, kept)
    refused_by_lem CheckError.Unsound e = rw (e, ek.0)

    pub unsound_tape : (e : CheckError) → k ≡ Err e → (r : ℕ) → r ≡ refusal_number (check_refusal e) → IsTape (tape_with two_words (parts ns ds fs) ws ks bytes rs) ns ds fs ws ks' rs r
    unsound_tape e q r er = by_result _ ns ds fs ws ks' rs r (by_check (result s ws ks' rs r) (ap (result s ws ks' rs) er ∙ refused_by_lem e q))

    -- a tape of no records: the check is all
    pub tape_empty : (free : ℕ) → k ≡ Ok free → length bytes ≡ 0 → Fits (parts ns ds fs) → IsTape (tape_with two_words (parts ns ds fs) ws ks bytes rs) ns ds fs ws ks' rs 0
    unfolding run_on
    tape_empty free e z F = by_result _ ns ds fs ws ks' rs 0 (by_check (result s ws ks' rs 0)
        (rw (e, ek.0, no_records bytes z) (ap (λ (q : State). result q ws (cleared (numbers_in ns).nodes ks) rs 0) (sym (state_back s ws free F)))))

    pub tape_done_lem : (free : ℕ) (ns' ds' : List ℕ) (fs' : List Frame) (ws' rs' : List ℕ) → k ≡ Ok free
        → IsRun (run_on two_words (records_result (core_of (parts ns ds fs) ws free) rs) 0 (records_of bytes)) ns' ds' fs' ws' rs' → IsTape (tape_with two_words (parts ns ds fs) ws ks bytes rs) ns' ds' fs' ws' ks' rs' 0
    tape_done_lem free ns' ds' fs' ws' rs' e R = by_result _ ns' ds' fs' ws' ks' rs' 0 (by_check _ (rw e (λ i. result (R.state i) (R.pool i) (ek.0 i) (R.answers i) 0)))
