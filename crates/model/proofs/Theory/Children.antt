-- The test for a live child.
use Rattle.std.specs.Prelude.{◌≡◌, refl, true, false, ℕ, ◌≤◌, length}
use Rattle.std.proofs.Common.{sym, ap, ◌∙◌, inl, inr, arith}
use mathlib.Core.List.Memᴰ.{head as here}
use mathlib.Core.List.Memᴰ.{tail as there}
use mathlib.Core.List.{Memᴰ as In}
use mathlib.Core.List.Permᴰ
use mathlib.Core.List.{List, [], ◌∷◌, Permᴰ}
use Rattle.words.specs.Tests.{true≢false, decided}
use Rattle.words.specs.Lists.{In-perm}
use Rattle.words.specs.Distinct.{same_eq, same_refl, same_differ}
use Rattle.model.specs.Machine.{Name, Frame, is_child, has_child}

pub In-hasChild : {x : Frame} {L : List Frame} (k : ℕ) (p : Name) → In x L → x.name ≡ k ∷ p → has_child p L ≡ true
In-hasChild k p (here {x = y} {xs = l} e) n = rw (ap (λ z. z.name) (sym e) ∙ n, same_refl p)
In-hasChild k p (there {x = y} {xs = l} m) n = elim (decided (is_child p y.name)) [ inl s ↦ rw s | inr s ↦ rw s (In-hasChild k p m n) ]

pub has_child_In : (p : Name) (L : List Frame) → has_child p L ≡ true → (f : Frame) × In f L × (k : ℕ) × (f.name ≡ k ∷ p)
has_child_In p [] h = absurd (true≢false (sym h))
has_child_In p (f ∷ L) h =
    elim (decided (is_child p f.name)) [
      | inl s ↦ (let x = found f.name s in (f, here refl, x.0, x.1))
      | inr s ↦ (let x = has_child_In p L (rw s at h) in (x.0, there x.1, x.2, x.3))
    ]
  where
    found : (r : Name) → is_child p r ≡ true → (k : ℕ) × (r ≡ k ∷ p)
    found [] t = absurd (true≢false (sym t))
    found (k ∷ r) t = (k, ap (λ z. k ∷ z) (same_eq r p t))

pub has_child_perm : {L L' : List Frame} (p : Name) → Permᴰ L L' → has_child p L ≡ false → has_child p L' ≡ false
has_child_perm {L} {L'} p π h =
    elim (decided (has_child p L'))
    [ inl t ↦ (let x = has_child_In p L' t in absurd (true≢false (sym (In-hasChild x.2 p (In-perm (Permᴰ.symm π) x.1) x.3) ∙ h))) | inr t ↦ t ]

-- a child's name is longer
pub is_child_short : (p r : Name) → length r ≤ length p → is_child p r ≡ false
is_child_short p [] h = refl
is_child_short p (k ∷ r) h = same_differ (λ (e : r ≡ p). omega (arith, h, ap length e))
