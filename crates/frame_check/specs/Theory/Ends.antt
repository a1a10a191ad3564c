-- From one more than the last place where a frame lives on, no frame lives.
use Rattle.std.specs.Prelude.{◌≡◌, Bool, true, not, List, eqb, length}
use Rattle.std.proofs.Math.Path.{refl, sym}
use Rattle.std.proofs.Common.{◌∙◌, eq-eqb, ne_eqb}
use Rattle.std.proofs.Math.Logic.{inl, inr}
use Rattle.std.proofs.Math.Bool.{false, and-true, or-false}
use Prim.Native.Nat.{ℕ, zero, suc, ◌≤◌, ◌<◌}
use native.Mathlib.Omega.{arith}
use Rattle.std.proofs.Math.Decide.{ℕ_discrete}
use Rattle.words.specs.Basics.{all, some}
use Rattle.words.specs.Tests.{decided, true≢false}
use Rattle.words.specs.Tallies.{some_at, some_of}
use Rattle.frames.specs.declared.Frame.{Frame}
use Rattle.frame_check.specs.Algorithm.{live_at, end_to, live_end}

module _ (fs : List Frame) where
  pub end_live : (c : ℕ) → live_at fs c ≡ true → end_to fs (suc c) ≡ suc c
  unfolding end_to
  end_live c e = rw e

  pub end_passed : (c : ℕ) → live_at fs c ≡ false → end_to fs (suc c) ≡ end_to fs c
  unfolding end_to
  end_passed c e = rw e

  pub end_le : (c : ℕ) → end_to fs c ≤ c
  unfolding end_to
  end_le zero = omega arith
  end_le (suc c) = elim (decided (live_at fs c)) [ inl e ↦ omega (arith, end_live c e) | inr e ↦ omega (arith, end_passed c e, end_le c) ]

  pub end_dead : (c p : ℕ) → end_to fs c ≤ p → p < c → live_at fs p ≡ false
  end_dead zero p a b = absurd (omega arith)
  end_dead (suc c) p a b = elim (decided (live_at fs c)) [
    | inl e ↦ absurd (omega (arith, end_live c e))
    | inr e ↦ elim (ℕ_discrete p c) [ yes d ↦ rw d e | no d ↦ end_dead c p (omega (arith, end_passed c e)) (omega arith) ]
  ]

  -- a test that holds where no frame lives holds everywhere if it does before that place
  pub all_to_end : (g : ℕ → Bool) → ((p : ℕ) → live_at fs p ≡ false → g p ≡ true) → (c : ℕ) → all (end_to fs c) g ≡ all c g
  unfolding end_to
  all_to_end g h zero = refl
  all_to_end g h (suc c) = elim (decided (live_at fs c)) [
    | inl e ↦ rw e
    | inr e ↦ rw (e, h c e) (all_to_end g h c ∙ sym (and-true (all c g)))
  ]

  -- it is 0 if no frame lives
  pub end_none : eqb (live_end fs) 0 ≡ not (some (length fs) (live_at fs))
  unfolding end_to
  end_none = elim (decided (some (length fs) (live_at fs))) [
    | inl e ↦ (
        let m = some_at (length fs) (live_at fs) e in
        rw e (ne_eqb (live_end fs) 0 (λ z. true≢false (sym m.2 ∙ end_dead (length fs) m.0 (omega (arith, z)) m.1))))
    | inr e ↦ rw e (eq-eqb (live_end fs) 0 (elim (ℕ_discrete (live_end fs) 0) [ yes z ↦ z | no z ↦ absurd (lively (length fs) z e) ]))
  ]
    where
      lively : (c : ℕ) → (end_to fs c ≡ 0 → ⊥) → some c (live_at fs) ≡ false → ⊥
      lively zero z e = z refl
      lively (suc c) z e = elim (decided (live_at fs c)) [
        | inl t ↦ true≢false (sym (some_of (suc c) (live_at fs) c (omega arith) t) ∙ e)
        | inr t ↦ lively c (λ y. z (end_passed c t ∙ y)) (sym (or-false (some c (live_at fs))) ∙ (rw t at e))
      ]
