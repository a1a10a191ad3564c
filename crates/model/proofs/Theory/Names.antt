-- Which names a frame with s spawns behind it may still bring: its own, and those below its later children.
use Rattle.std.specs.Prelude.{◌≡◌, refl, ◌⊎◌, ℕ, suc, ◌<◌, length}
use Rattle.std.proofs.Common.{ap, ap₂, inl, inr, arith}
use mathlib.Core.List.{[], ◌∷◌, head-eq_of_cons-eq, tail-eq_of_cons-eq}
use Rattle.std.proofs.Math.Decide.{dec_lt}
use Rattle.words.specs.Basics.{same}
use Rattle.words.specs.Tests.{decided}
use Rattle.words.specs.Distinct.{same_eq, same_ne}
use Rattle.model.specs.Machine.{Name}

-- r lies under a child of p that is made after its first s
abbrev pub below : Name → ℕ → Name → Type 0
below p s [] = ⊥
below p s (k ∷ r) = ((r ≡ p) × (s < k)) ⊎ ((0 < k) × below p s r)

-- r is p, or lies under such a child
abbrev pub owns : Name → ℕ → Name → Type 0
owns p s r = (r ≡ p) ⊎ below p s r

pub below_longer : (p : Name) (s : ℕ) (r : Name) → below p s r → length p < length r
below_longer p s [] b = absurd b
below_longer p s (k ∷ r) (inl h) = omega (arith, ap length h.0)
below_longer p s (k ∷ r) (inr h) = omega (arith, below_longer p s r h.1)

pub below_weaker : (p : Name) (s : ℕ) (r : Name) → below p (suc s) r → below p s r
below_weaker p s [] b = absurd b
below_weaker p s (k ∷ r) (inl h) = inl (h.0, omega arith)
below_weaker p s (k ∷ r) (inr h) = inr (h.0, below_weaker p s r h.1)

pub owns_weaker : (p : Name) (s : ℕ) (r : Name) → owns p (suc s) r → owns p s r
owns_weaker p s r (inl e) = inl e
owns_weaker p s r (inr b) = inr (below_weaker p s r b)

below-child : (p : Name) (s : ℕ) (r : Name) → below (suc s ∷ p) 0 r → below p s r
below-child p s [] b = absurd b
below-child p s (k ∷ r) (inl h) = inr (h.1, rw h.0 (inl (refl, omega arith)))
below-child p s (k ∷ r) (inr h) = inr (h.0, below-child p s r h.1)

pub owns-child : (p : Name) (s : ℕ) (r : Name) → owns (suc s ∷ p) 0 r → owns p s r
owns-child p s r (inl e) = rw e (inr (inl (refl, omega arith)))
owns-child p s r (inr b) = inr (below-child p s r b)

pub child-below : (p : Name) (s : ℕ) (r : Name) → owns (suc s ∷ p) 0 r → below p s r
child-below p s r (inl e) = rw e (inl (refl, omega arith))
child-below p s r (inr b) = below-child p s r b

-- the child's names are none of those that the parent keeps
below_apart : (p : Name) (s : ℕ) (r : Name) → owns (suc s ∷ p) 0 r → below p (suc s) r → ⊥
below_apart p s [] o b = b
below_apart p s (k ∷ r) (inl e) (inl h) = omega (arith, head-eq_of_cons-eq e)
below_apart p s (k ∷ r) (inl e) (inr h) = omega (arith, below_longer p (suc s) r h.1, ap length (tail-eq_of_cons-eq e))
below_apart p s (k ∷ r) (inr (inl g)) (inl h) = omega (arith, ap length g.0, ap length h.0)
below_apart p s (k ∷ r) (inr (inl g)) (inr h) = below_apart p s r (inl g.0) h.1
below_apart p s (k ∷ r) (inr (inr g)) (inl h) = omega (arith, below_longer (suc s ∷ p) 0 r g.1, ap length h.0)
below_apart p s (k ∷ r) (inr (inr g)) (inr h) = below_apart p s r (inr g.1) h.1

pub owns_apart : (p : Name) (s : ℕ) (r : Name) → owns (suc s ∷ p) 0 r → owns p (suc s) r → ⊥
owns_apart p s r (inl e) (inl f) = omega (arith, ap length e, ap length f)
owns_apart p s r (inr b) (inl f) = omega (arith, below_longer (suc s ∷ p) 0 r b, ap length f)
owns_apart p s r o (inr b) = below_apart p s r o b

next_or_later : (s k : ℕ) → s < k → (k ≡ suc s) ⊎ (suc s < k)
next_or_later s k h = elim (dec_lt (suc s) k) [ yes l ↦ inr l | no l ↦ inl (omega arith) ]

below_split : (p : Name) (s : ℕ) (r : Name) → below p s r → owns (suc s ∷ p) 0 r ⊎ below p (suc s) r
below_split p s [] b = absurd b
below_split p s (k ∷ r) (inl h) = elim (next_or_later s k h.1) [ inl e ↦ inl (inl (ap₂ ◌∷◌ e h.0)) | inr l ↦ inr (inl (h.0, l)) ]
below_split p s (k ∷ r) (inr h) = elim (below_split p s r h.1) [ inl o ↦ inl (inr (deeper o)) | inr b ↦ inr (inr (h.0, b)) ]
  where
    deeper : owns (suc s ∷ p) 0 r → below (suc s ∷ p) 0 (k ∷ r)
    deeper (inl e) = inl (e, h.0)
    deeper (inr b) = inr (h.0, b)

-- a spawn parts the names between the child and its parent
pub owns_split : (p : Name) (s : ℕ) (r : Name) → owns p s r → owns (suc s ∷ p) 0 r ⊎ owns p (suc s) r
owns_split p s r (inl e) = inr (inl e)
owns_split p s r (inr b) = elim (below_split p s r b) [ inl o ↦ inl o | inr c ↦ inr (inr c) ]

-- ---- whether a frame owns a name can be decided

abbrev Decided : Type 0 → Type 0
Decided A = A ⊎ (A → ⊥)

either : {A B : Type 0} → Decided A → Decided B → Decided (A ⊎ B)
either (inl a) y = inl (inl a)
either (inr a) (inl b) = inl (inr b)
either (inr a) (inr b) = inr (elim [ inl x ↦ a x | inr y ↦ b y ])

pair : {A B : Type 0} → Decided A → Decided B → Decided (A × B)
pair (inl a) (inl b) = inl (a, b)
pair (inl a) (inr b) = inr (λ x. b x.1)
pair (inr a) y = inr (λ x. a x.0)

equal : (r p : Name) → Decided (r ≡ p)
equal r p = elim (decided (same r p)) [ inl e ↦ inl (same_eq r p e) | inr e ↦ inr (same_ne e) ]

less : (s k : ℕ) → Decided (s < k)
less s k = elim (dec_lt s k) [ yes l ↦ inl l | no l ↦ inr l ]

below_or_not : (p : Name) (s : ℕ) (r : Name) → Decided (below p s r)
below_or_not p s [] = inr (λ b. b)
below_or_not p s (k ∷ r) = either (pair (equal r p) (less s k)) (pair (less 0 k) (below_or_not p s r))

pub owns_or_not : (p : Name) (s : ℕ) (r : Name) → owns p s r ⊎ (owns p s r → ⊥)
owns_or_not p s r = either (equal r p) (below_or_not p s r)
