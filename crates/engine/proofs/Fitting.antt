-- The entries' ways out, over plain variables: the parts do not fit, or what the engine did, in the host's memory.
use Rattle.std.specs.Prelude.{Option, Some, None, Result, Ok, Err, ⊤, ok_or, is_err, IsErr, IsErrAnd, IsSome, MatchOption}
use Rattle.std.specs.Result.{result_ok}
use Rattle.std.specs.Array.{IsWholeChunk}
use denote.MutBor.{MutBor}
use denote.Bor.{Bor}
use mathlib.Core.Path.{◌≡◌, refl, sym, ap, ◌∙◌, subst}
use mathlib.Core.Bool.{Bool, true, false, ◌&&◌}
use mathlib.Core.Logic.{inl, inr}
use mathlib.Core.List.{List}
use Prim.Native.Nat.{ℕ, ◌*◌}
use lib.Dec.{eqb}
use lib.ListN.{length}
use borrow.Author.Tests.{eqb-true, eq-eqb}
use Rattle.words.specs.Tests.{both, decided, true≢false}
use Rattle.frames.specs.Widths.{deque_words}
use Rattle.frames.specs.declared.Frame.{Frame}
use Rattle.soundness.specs.Numbers.{number_count}
use Rattle.semantics.specs.declared.Refusal.{Refusal}
use Rattle.semantics.specs.declared.Refusal.TheVariants.{Lengths}
use Rattle.semantics.specs.Entries.{State, fits, start_with, start_on, tape_with, tape_on}
use Rattle.semantics.specs.Images.{save_with, save_on, load_with, load_on}
use Rattle.semantics.specs.Promises.{parts, lent, IsStart, IsTape, IsSave, IsLoad, IsReport}
use Rattle.semantics.specs.Report.{fits_report, report_with, report_on}
use Rattle.semantics.specs.Answers.{refusal_number}
use Rattle.engine.specs.Promises.{result_number}
use Rattle.engine.proofs.Numbered.{handed}
use Rattle.soundness.specs.Layout.{two_words}

module _ (ns ds : List ℕ) (fs : List Frame) where
  pub fit : length ns ≡ number_count → length ds ≡ deque_words → fits (parts ns ds fs) ≡ true
  fit ln ld = rw (eq-eqb (length ns) number_count ln, eq-eqb (length ds) deque_words ld) refl

  module _ (no : length ns ≡ number_count → length ds ≡ deque_words → ⊥) where
    pub unfit : fits (parts ns ds fs) ≡ false
    unfit = elim (decided (fits (parts ns ds fs))) [
      | inl t ↦ (let q = both (eqb (length ns) number_count) (eqb (length ds) deque_words) t in absurd (no (eqb-true (length ns) number_count q.0) (eqb-true (length ds) deque_words q.1)))
      | inr f ↦ f
    ]

    -- another length: nothing changes
    module _ (ns' : List ℕ) (same : ns' ≡ ns) (x : Result ⊤ Refusal) (ex : x ≡ Err Lengths) where
      pub start_unfit : (workers : ℕ) (vs ws : List ℕ) → IsStart (start_on two_words (parts ns ds fs) workers vs ws) ns' ds fs ws (result_number x)
      unfolding start_on
      start_unfit workers vs ws = rw (same, ex, unfit) (record { result = refl; state = refl; pool = refl })

      pub tape_unfit : (ws ks bytes rs : List ℕ) → IsTape (tape_on two_words (parts ns ds fs) ws ks bytes rs) ns' ds fs ws ks rs (result_number x)
      unfolding tape_on
      tape_unfit ws ks bytes rs = rw (same, ex, unfit) (record { result = refl; state = refl; pool = refl; work = refl; answers = refl })

      pub load_unfit : (ws ks image : List ℕ) → IsLoad (load_on two_words (parts ns ds fs) ws ks image) ns' ds fs ws ks (result_number x)
      unfolding load_on
      load_unfit ws ks image = rw (same, ex, unfit) (record { result = refl; state = refl; pool = refl; work = refl })

    pub save_unfit : (x : Result ⊤ Refusal) → x ≡ Err Lengths → (ws ks ts : List ℕ) → IsSave (save_on two_words (parts ns ds fs) ws ks ts) ks ts (result_number x)
    unfolding save_on
    save_unfit x ex ws ks ts = rw (ex, unfit) (record { result = refl; work = refl; target = refl })

  -- their lengths: what is left in the arrays is left in the lent parts
  module _ (ln : length ns ≡ number_count) (ld : length ds ≡ deque_words) where
    pub save_fit : (s : State) (ws ks ts ks' ts' : List ℕ) (r : ℕ) → IsSave (save_with two_words s ws ks ts) ks' ts' r → s ≡ parts ns ds fs → IsSave (save_on two_words (parts ns ds fs) ws ks ts) ks' ts' r
    unfolding save_on
    save_fit s ws ks ts ks' ts' r o e = rw (fit ln ld, sym e) o

    module _ (ns₁ ds₁ ns₂ ds₂ : List ℕ) (fs₁ fs₂ : List Frame) where
      pub start_fit : (workers : ℕ) (vs ws ws' : List ℕ) (r : ℕ) → IsStart (start_with two_words workers vs fs ws) ns₁ ds₁ fs₁ ws' r → ns₂ ≡ ns₁ → ds₂ ≡ ds₁ → fs₂ ≡ fs₁
          → IsStart (start_on two_words (parts ns ds fs) workers vs ws) ns₂ ds₂ fs₂ ws' r
      unfolding start_on
      start_fit workers vs ws ws' r o en ed ef = rw (fit ln ld, en, ed, ef) o

      pub tape_fit : (s : State) (ws ks bytes rs ws' ks' rs' : List ℕ) (r : ℕ) → IsTape (tape_with two_words s ws ks bytes rs) ns₁ ds₁ fs₁ ws' ks' rs' r → s ≡ parts ns ds fs
          → ns₂ ≡ ns₁ → ds₂ ≡ ds₁ → fs₂ ≡ fs₁ → IsTape (tape_on two_words (parts ns ds fs) ws ks bytes rs) ns₂ ds₂ fs₂ ws' ks' rs' r
      unfolding tape_on
      tape_fit s ws ks bytes rs ws' ks' rs' r o e en ed ef = rw (fit ln ld, en, ed, ef, sym e) o

      pub load_fit : (ws ks image ws' ks' : List ℕ) (r : ℕ) → IsLoad (load_with two_words fs ws ks image) ns₁ ds₁ fs₁ ws' ks' r → ns₂ ≡ ns₁ → ds₂ ≡ ds₁ → fs₂ ≡ fs₁
          → IsLoad (load_on two_words (parts ns ds fs) ws ks image) ns₂ ds₂ fs₂ ws' ks' r
      unfolding load_on
      load_fit ws ks image ws' ks' r o en ed ef = rw (fit ln ld, en, ed, ef) o

-- ---- a report

module _ (ns ds : List ℕ) (fs : List Frame) (workers : ℕ) (vs ws tape ks rs cs qs : List ℕ) where
  abbrev fits_all : Bool
  fits_all = fits_report (parts ns ds fs) (lent ks rs cs qs)

  unfit_by : fits_all ≡ false → (ns' ds' : List ℕ) → ns' ≡ ns → ds' ≡ ds → (x : Result ⊤ Refusal) → x ≡ Err Lengths
      → IsReport (report_on two_words (parts ns ds fs) workers vs ws tape (lent ks rs cs qs)) ns' ds' fs ws ks rs cs qs (result_number x)
  unfolding report_on
  unfit_by f ns' ds' en ed x ex = rw (en, ed, ex, f) (record { result = refl; state = refl; pool = refl; lent = refl })

  pub report_unfit : (length ns ≡ number_count → length ds ≡ deque_words → ⊥) → (ns' : List ℕ) → ns' ≡ ns → (x : Result ⊤ Refusal) → x ≡ Err Lengths
      → IsReport (report_on two_words (parts ns ds fs) workers vs ws tape (lent ks rs cs qs)) ns' ds fs ws ks rs cs qs (result_number x)
  report_unfit other ns' en x ex = unfit_by (ap (λ b. b && (eqb (length cs) (2 * length fs) && eqb (length qs) 4)) (unfit ns ds fs other)) ns' ds en refl x ex

  module _ (ln : length ns ≡ number_count) (ld : length ds ≡ deque_words) (b : Bool) (eb : b ≡ eqb (length cs) (2 * length fs) && eqb (length qs) 4) where
    all_are : fits_all ≡ b
    all_are = ap (λ a. a && (eqb (length cs) (2 * length fs) && eqb (length qs) 4)) (fit ns ds fs ln ld) ∙ sym eb

    pub words_unfit : b ≡ false → (ns' ds' : List ℕ) → ns' ≡ ns → ds' ≡ ds → IsReport (report_on two_words (parts ns ds fs) workers vs ws tape (lent ks rs cs qs)) ns' ds' fs ws ks rs cs qs (refusal_number Lengths)
    words_unfit f ns' ds' en ed = unfit_by (all_are ∙ f) ns' ds' en ed (Err Lengths) refl

    pub words_fit : b ≡ true → (length cs ≡ 2 * length fs) × (length qs ≡ 4)
    words_fit t =
        let q = both (eqb (length cs) (2 * length fs)) (eqb (length qs) 4) (sym eb ∙ t) in
        (eqb-true (length cs) (2 * length fs) q.0, eqb-true (length qs) 4 q.1)

    pub report_fit : b ≡ true → (ns₁ ds₁ ns₂ ds₂ : List ℕ) (fs₁ fs₂ : List Frame) (s : State) (ws' ks' rs' cs' qs' : List ℕ) (r : ℕ)
        → IsReport (report_with two_words s workers vs ws tape (lent ks rs cs qs)) ns₁ ds₁ fs₁ ws' ks' rs' cs' qs' r → s ≡ parts ns ds fs
        → ns₂ ≡ ns₁ → ds₂ ≡ ds₁ → fs₂ ≡ fs₁ → IsReport (report_on two_words (parts ns ds fs) workers vs ws tape (lent ks rs cs qs)) ns₂ ds₂ fs₂ ws' ks' rs' cs' qs' r
    unfolding report_on
    report_fit t ns₁ ds₁ ns₂ ds₂ fs₁ fs₂ s ws' ks' rs' cs' qs' r o e en ed ef = rw (all_are ∙ t, en, ed, ef, sym e) o

-- ---- an array of a lent part, or none

abbrev refusal_in : {T : Type 0} → Result T Refusal → Refusal
refusal_in (Ok v) = Lengths
refusal_in (Err f) = f

module _ {T : Type 0} where
  by_none : (a : Option T) (y : Result T Refusal) → y ≡ ok_or a Lengths → (f : Refusal) → y ≡ Err f → (f ≡ Lengths) × (IsSome a → ⊥)
  by_none None y o f w = (ap refusal_in (sym w ∙ o), λ h. true≢false (sym h))
  by_none (Some v) y o f w = absurd (true≢false (ap is_err (sym w ∙ o)))

  by_some : (a : Option T) (y : Result T Refusal) → y ≡ ok_or a Lengths → (v : T) → y ≡ Ok v → a ≡ Some v
  by_some None y o v w = absurd (true≢false (sym (ap is_err (sym w ∙ o))))
  by_some (Some u) y o v w = ap result_ok (sym o ∙ w)

  -- what a `?` hands on where there is none
  pub refused_length : (a : Option T) (y : Result T Refusal) → y ≡ ok_or a Lengths → (f : Refusal) → y ≡ Err f → (x : Result ⊤ Refusal) → IsErr x × IsErrAnd x (λ t. t ≡ f) → x ≡ Err Lengths
  refused_length a y o f w x h = handed x f h ∙ ap Err (by_none a y o f w).0

  pub no_array : (a : Option T) (y : Result T Refusal) → y ≡ ok_or a Lengths → (f : Refusal) → y ≡ Err f → IsSome a → ⊥
  no_array a y o f w = (by_none a y o f w).1

whole : (ns : List ℕ) (n : ℕ) (A : Type 0) (a : Option (MutBor (List ℕ))) (v : MutBor (List ℕ)) → a ≡ Some v → MatchOption a A (λ y. IsWholeChunk ns y.now n) → IsWholeChunk ns v.now n
whole ns n A a v e m = subst (λ b. MatchOption b A (λ y. IsWholeChunk ns y.now n)) e m

-- there is one: it is the whole part
pub whole_array : (ns : List ℕ) (n : ℕ) (A : Type 0) (a : Option (MutBor (List ℕ))) (y : Result (MutBor (List ℕ)) Refusal) → y ≡ ok_or a Lengths → (v : MutBor (List ℕ)) → y ≡ Ok v
    → MatchOption a A (λ y. IsWholeChunk ns y.now n) → IsWholeChunk ns v.now n
whole_array ns n A a y o v w m = whole ns n A a v (by_some a y o v w) m

-- the same of a part that is only read
pub whole_shared : (ns : List ℕ) (n : ℕ) (A : Type 0) (a : Option (Bor (List ℕ))) (y : Result (Bor (List ℕ)) Refusal) → y ≡ ok_or a Lengths → (v : Bor (List ℕ)) → y ≡ Ok v
    → MatchOption a A (λ y. IsWholeChunk ns y.now n) → IsWholeChunk ns v.now n
whole_shared ns n A a y o v w m = subst (λ b. MatchOption b A (λ y. IsWholeChunk ns y.now n)) (by_some a y o v w) m
