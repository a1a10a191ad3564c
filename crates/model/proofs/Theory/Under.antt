-- A name that is another one or lies below it.
use Rattle.std.specs.Prelude.{◌≡◌, refl, ◌≢◌, ◌⊎◌, [], ◌∷◌, ◌++◌, ℕ, ◌≤◌, length}
use Rattle.std.proofs.Common.{sym, ap, ◌∙◌, subst, inl, inr, arith}
use Rattle.words.specs.Basics.{same}
use Rattle.words.specs.Tests.{decided}
use Rattle.words.specs.Distinct.{same_eq, same_ne}
use Rattle.model.specs.Machine.{Name}

-- r is p or below it
abbrev pub Under : Name → Name → Type 0
Under [] p = [] ≡ p
Under (k ∷ r) p = ((k ∷ r) ≡ p) ⊎ Under r p

pub under_same : (p : Name) → Under p p
under_same [] = refl
under_same (k ∷ p) = inl refl

-- that is, p is the end of r
pub under_append : (u p : Name) → Under (u ++ p) p
under_append [] p = under_same p
under_append (k ∷ u) p = inr (under_append u p)

pub under_ends : (r p : Name) → Under r p → (u : Name) × (r ≡ u ++ p)
under_ends [] p u = ([], u)
under_ends (k ∷ r) p (inl e) = ([], e)
under_ends (k ∷ r) p (inr u) = let x = under_ends r p u in (k ∷ x.0, ap (λ z. k ∷ z) x.1)

pub under_main : (r : Name) → Under r []
under_main [] = refl
under_main (k ∷ r) = inr (under_main r)

pub under_trans : (r q p : Name) → Under r q → Under q p → Under r p
under_trans [] q p u v = subst (λ z. Under z p) (sym u) v
under_trans (k ∷ r) q p (inl e) v = subst (λ z. Under z p) (sym e) v
under_trans (k ∷ r) q p (inr u) v = inr (under_trans r q p u v)

pub under_shorter : (r p : Name) → Under r p → length p ≤ length r
under_shorter [] p u = omega (arith, ap length u)
under_shorter (k ∷ r) p (inl e) = omega (arith, ap length e)
under_shorter (k ∷ r) p (inr u) = omega (arith, under_shorter r p u)

-- r lies below one name of a length only
pub under_one : (r p p' : Name) → length p ≡ length p' → Under r p → Under r p' → p ≡ p'
under_one [] p p' l u u' = sym u ∙ u'
under_one (k ∷ r) p p' l (inl e) (inl e') = sym e ∙ e'
under_one (k ∷ r) p p' l (inl e) (inr u) = absurd (omega (arith, l, ap length e, under_shorter r p' u))
under_one (k ∷ r) p p' l (inr u) (inl e) = absurd (omega (arith, l, ap length e, under_shorter r p u))
under_one (k ∷ r) p p' l (inr u) (inr u') = under_one r p p' l u u'

-- two that are under one another are the same
pub under_both : (r p : Name) → Under r p → Under p r → r ≡ p
under_both r p u v = under_one r r p (omega (arith, under_shorter r p u, under_shorter p r v)) (under_same r) u

-- r, below p, has a parent that is p or below it
pub under_parent : (r p : Name) → r ≢ p → Under r p → (k : ℕ) × (q : Name) × (r ≡ k ∷ q) × Under q p
under_parent [] p n u = absurd (n u)
under_parent (k ∷ r) p n (inl e) = absurd (n e)
under_parent (k ∷ r) p n (inr u) = (k, r, refl, u)

-- r, below p, is under a child of p
pub under_child : (r p : Name) → r ≢ p → Under r p → (k : ℕ) × Under r (k ∷ p)
under_child [] p n u = absurd (n u)
under_child (k ∷ r) p n (inl e) = absurd (n e)
under_child (k ∷ r) p n (inr u) =
    elim (decided (same r p)) [
      | inl t ↦ (k, inl (ap (λ z. k ∷ z) (same_eq r p t)))
      | inr t ↦ (let x = under_child r p (same_ne t) u in (x.0, inr x.1))
    ]
