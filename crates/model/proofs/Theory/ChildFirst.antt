-- The child-first list by recursion on the trace, and whose steps are in it.
use Rattle.std.specs.Prelude.{◌≡◌, refl, true, false, cond, ℕ, suc}
use Rattle.std.proofs.Common.{sym, ap₂, ◌∙◌, inl, inr}
use mathlib.Core.List.{List, [], ◌∷◌, ◌++◌, cons≢nil}
use Rattle.words.specs.Basics.{same}
use Rattle.words.specs.Tests.{decided}
use Rattle.words.specs.Distinct.{same_eq, same_differ}
use Rattle.model.specs.Machine.{Name}
use Rattle.model.specs.Steps.{Action, spawn, return, sync, read, write, fold}
use Rattle.model.specs.Run.{Entry, entries_of, follow}
use Rattle.model.proofs.Theory.Names.{owns, owns_weaker, owns-child}

-- the child-first list of the frame p, whose next spawn is its k-th, in what is left of a trace
abbrev pub child_first : List Entry → Name → ℕ → List Entry
child_first [] p k = []
child_first (e ∷ es) p k =
    let inner = child_first es (k ∷ p) 1 in
    let after = child_first es p (suc k) in
    let on = child_first es p k in
    let mine = follow e.action e inner after on in
    cond (same e.frame p) mine on

pub of_mine : (r : Name) (e : Entry) (es : List Entry) → same e.frame r ≡ true → entries_of r (e ∷ es) ≡ e ∷ entries_of r es
of_mine r e es h = rw h

pub of_skip : (r : Name) (e : Entry) (es : List Entry) → same e.frame r ≡ false → entries_of r (e ∷ es) ≡ entries_of r es
of_skip r e es h = rw h

pub of_cons : (r : Name) (e : Entry) (es fs : List Entry) → entries_of r es ≡ entries_of r fs → entries_of r (e ∷ es) ≡ entries_of r (e ∷ fs)
of_cons r e es fs h = elim (decided (same e.frame r)) [ inl s ↦ rw (of_mine r e es s, of_mine r e fs s, h) | inr s ↦ rw (of_skip r e es s, of_skip r e fs s, h) ]

pub of_append : (r : Name) (es fs : List Entry) → entries_of r (es ++ fs) ≡ entries_of r es ++ entries_of r fs
of_append r [] fs = refl
of_append r (e ∷ es) fs = elim (decided (same e.frame r)) [ inl s ↦ rw (of_mine r e es s, of_mine r e (es ++ fs) s, of_append r es fs) | inr s ↦ rw (of_skip r e es s, of_skip r e (es ++ fs) s, of_append r es fs) ]

pub of_none : (r : Name) (e : Entry) (es : List Entry) → entries_of r (e ∷ es) ≡ [] → (same e.frame r ≡ false) × (entries_of r es ≡ [])
of_none r e es h = elim (decided (same e.frame r)) [ inl s ↦ absurd (cons≢nil (sym (of_mine r e es s) ∙ h)) | inr s ↦ (s, sym (of_skip r e es s) ∙ h) ]

pub child_first_skip : (e : Entry) (es : List Entry) (p : Name) (k : ℕ) → same e.frame p ≡ false → child_first (e ∷ es) p k ≡ child_first es p k
child_first_skip e es p k h = rw h

pub child_first_mine : (e : Entry) (es : List Entry) (p : Name) (k : ℕ) → same e.frame p ≡ true
    → child_first (e ∷ es) p k ≡ follow e.action e (child_first es (k ∷ p) 1) (child_first es p (suc k)) (child_first es p k)
child_first_mine e es p k h = rw h

-- a frame that does nothing more has an empty child-first list
pub child_first-none : (es : List Entry) (p : Name) (k : ℕ) → entries_of p es ≡ [] → child_first es p k ≡ []
child_first-none [] p k h = refl
child_first-none (e ∷ es) p k h = let g = of_none p e es h in rw (child_first_skip e es p k g.0) (child_first-none es p k g.1)

of_follow : (r : Name) (a : Action) (e : Entry) (x y z : List Entry) → same e.frame r ≡ false → entries_of r x ≡ [] → entries_of r y ≡ [] → entries_of r z ≡ [] → entries_of r (follow a e x y z) ≡ []
of_follow r spawn e x y z s hx hy hz = of_skip r e (x ++ y) s ∙ of_append r x y ∙ ap₂ ◌++◌ hx hy
of_follow r return e x y z s hx hy hz = of_skip r e z s ∙ hz
of_follow r sync e x y z s hx hy hz = of_skip r e z s ∙ hz
of_follow r (read i) e x y z s hx hy hz = of_skip r e z s ∙ hz
of_follow r (fold i v) e x y z s hx hy hz = of_skip r e z s ∙ hz
of_follow r (write i v) e x y z s hx hy hz = of_skip r e z s ∙ hz

-- the child-first list has only steps of the trace
pub of_within : (r : Name) (es : List Entry) (p : Name) (k : ℕ) → entries_of r es ≡ [] → entries_of r (child_first es p k) ≡ []
of_within r [] p k h = refl
of_within r (e ∷ es) p k h =
    let g = of_none r e es h in
    elim (decided (same e.frame p)) [
      | inl s ↦ rw (child_first_mine e es p k s) (of_follow r e.action e _ _ _ g.0 (of_within r es (k ∷ p) 1 g.1) (of_within r es p (suc k) g.1) (of_within r es p k g.1))
      | inr s ↦ rw (child_first_skip e es p k s) (of_within r es p k g.1)
    ]

-- a frame's child-first list has only names that the frame owns
pub of_foreign : (r : Name) (es : List Entry) (p : Name) (s : ℕ) → (owns p s r → ⊥) → entries_of r (child_first es p (suc s)) ≡ []
of_foreign r [] p s no' = refl
of_foreign r (e ∷ es) p s no' =
    elim (decided (same e.frame p)) [
      | inl h ↦ rw (child_first_mine e es p (suc s) h)
          (of_follow r e.action e _ _ _ (same_differ (λ d. no' (inl (sym d ∙ same_eq e.frame p h))))
          (of_foreign r es (suc s ∷ p) 0 (λ o. no' (owns-child p s r o)))
          (of_foreign r es p (suc s) (λ o. no' (owns_weaker p s r o)))
          (of_foreign r es p s no'))
      | inr h ↦ rw (child_first_skip e es p (suc s) h) (of_foreign r es p s no')
    ]
