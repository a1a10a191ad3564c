-- The ways out of the change-over, over plain variables.
use Rattle.std.specs.Prelude.{Result, Err, Ok, ⊤}
use mathlib.Core.Path.{◌≡◌, refl, sym, ap, ◌∙◌}
use mathlib.Core.Bool.{Bool, true, false, cond}
use mathlib.Core.List.{List}
use Prim.Native.Nat.{ℕ, ◌*◌, ◌≤◌}
use lib.Dec.{leb}
use lib.ListN.{length}
use Rattle.words.specs.Tests.{true≢false}
use Rattle.soundness.specs.Soundness.{Checked}
use Rattle.soundness.specs.declared.CheckError.{CheckError}
use Rattle.soundness.specs.declared.CheckError.TheVariants.{NoRoom}
use Rattle.frames.specs.Widths.{deque_words}
use Rattle.frames.specs.declared.Frame.{Frame}
use Rattle.soundness.specs.declared.Numbers.{Numbers}
use Rattle.soundness.specs.Numbers.{number_count, numbers_in, totals_in}
use Rattle.soundness.specs.Soundness.{checked}
use Rattle.soundness.specs.Layout.{four_words}
use Rattle.packed.specs.Pack.{converted}
use Rattle.semantics.specs.declared.Refusal.{Refusal}
use Rattle.semantics.specs.declared.Refusal.TheVariants.{Lengths}
use Rattle.semantics.specs.Answers.{refusal_number, check_refusal}
use Rattle.semantics.specs.Entries.{State, numbers_of, is_sound, chain_free}
use Rattle.semantics.specs.Convert.{ConvertResult, convert_checked, convert_with, convert_on}
use Rattle.semantics.specs.Promises.{parts, IsConvert}
use Rattle.semantics.proofs.Theory.Images.{sound_room}
use Rattle.semantics.proofs.Theory.WorkSlice.{no_room_keeps}
use Rattle.engine.specs.Promises.{IsCheck, result_number}
use Rattle.engine.proofs.Fitting.{fit, unfit}

-- is it one that refuses nothing?
abbrev passes : Checked → Bool
passes (Ok _) = true
passes (Err _) = false

-- a check that refuses nothing found state and pool sound
not_refused : (a b : Bool) (m free : ℕ) → Ok free ≡ cond a (cond b (Ok m) (Err CheckError.Unsound)) (Err NoRoom) → b ≡ true
not_refused true true m free e = refl
not_refused true false m free e = absurd (true≢false (ap passes e))
not_refused false b m free e = absurd (true≢false (ap passes e))

-- the check answered k and left the work slice ks'
module _ (ns ds : List ℕ) (fs : List Frame) (ws ks : List ℕ) (k : Checked) (ks' : List ℕ) (ek : IsCheck four_words (parts ns ds fs) ws ks ks' k) where
  abbrev s : State
  s = parts ns ds fs

  by_answer : (ws₁ ks₁ : List ℕ) (r₁ : ℕ) → ◌≡◌ {A = ConvertResult} (record { pool = ws₁; work = ks₁; result = r₁ }) (convert_checked k s ws ks) → IsConvert (convert_with s ws ks) ws₁ ks₁ r₁
  unfolding convert_with
  by_answer ws₁ ks₁ r₁ e =
      let f : ◌≡◌ {A = ConvertResult} (record { pool = ws₁; work = ks₁; result = r₁ }) (convert_with s ws ks) = e ∙ ap (λ (j : Checked). convert_checked j s ws ks) ek.1 in
      record { result = ap (λ (o : ConvertResult). o.result) f; pool = ap (λ (o : ConvertResult). o.pool) f; work = ap (λ (o : ConvertResult). o.work) f }

  refused_by_lem : (e : CheckError) → k ≡ Err e → ◌≡◌ {A = ConvertResult} (record { pool = ws; work = ks'; result = refusal_number (check_refusal e) }) (convert_checked k s ws ks)
  refused_by_lem NoRoom e = let kept : ks' ≡ ks = ek.0 ∙ no_room_keeps four_words (numbers_in ns) (totals_in ns) ds fs ws ks (sym ek.1 ∙ e) in rw (e, kept)
  refused_by_lem CheckError.Unsound e = rw (e, ek.0)

  pub convert_refused_lem : (e : CheckError) → k ≡ Err e → (r : ℕ) → r ≡ refusal_number (check_refusal e) → IsConvert (convert_with (parts ns ds fs) ws ks) ws ks' r
  convert_refused_lem e q r er = by_answer ws ks' r (ap (λ n. record { pool = ws; work = ks'; result = n }) er ∙ refused_by_lem e q)

  module _ (free : ℕ) (q : k ≡ Ok free) (n : Numbers) (en : n ≡ numbers_in ns) where
    sound_state : is_sound four_words s ws ≡ true
    unfolding checked
    sound_state = not_refused (leb (numbers_of s).nodes (length ks)) (is_sound four_words s ws) (chain_free four_words s ws) free (sym q ∙ ek.1)

    -- what packing asks
    pub convert_asks : 4 * n.nodes ≤ length ws
    convert_asks = rw en (sound_room four_words s ws sound_state)

    pub convert_done : (ws' : List ℕ) → ws' ≡ converted n.nodes ws → IsConvert (convert_with (parts ns ds fs) ws ks) ws' ks' 0
    convert_done ws' ew = by_answer ws' ks' 0 (rw (ew, en, q, ek.0))

-- ---- the parts do not fit, or what was done

module _ (ns ds : List ℕ) (fs : List Frame) where
  pub convert_unfit : (length ns ≡ number_count → length ds ≡ deque_words → ⊥) → (x : Result ⊤ Refusal) → x ≡ Err Lengths → (ws ks : List ℕ) → IsConvert (convert_on (parts ns ds fs) ws ks) ws ks (result_number x)
  unfolding convert_on
  convert_unfit other x ex ws ks = rw (ex, unfit ns ds fs other) (record { result = refl; pool = refl; work = refl })

  pub convert_fit : length ns ≡ number_count → length ds ≡ deque_words → (s : State) (ws ks ws' ks' : List ℕ) (r : ℕ) → IsConvert (convert_with s ws ks) ws' ks' r → s ≡ parts ns ds fs → IsConvert (convert_on (parts ns ds fs) ws ks) ws' ks' r
  unfolding convert_on
  convert_fit ln ld s ws ks ws' ks' r o e = rw (fit ns ds fs ln ld, sym e) o
