-- Decimal digits as the code writes them.
use mathlib.Core.Path.{◌≡◌, refl, sym, ap, ◌∙◌}
use mathlib.Core.Logic.{inl, inr}
use mathlib.Core.List.{List, [], ◌∷◌, ◌++◌}
use Prim.Native.Nat.{ℕ, zero, suc, ◌/◌, ◌≤◌, ◌<◌}
use native.Mathlib.Omega.{arith}
use lib.Dec.{ltb}
use borrow.Author.Tests.{lt-ltb, le-ltb}
use Rattle.words.specs.Tests.{decided, lt_of, ge_of}
use Rattle.lines.specs.Lines.{digit, decimal_by, decimal}

by_one : (k n : ℕ) → n < 10 → decimal_by k n ≡ digit n ∷ []
unfolding decimal_by
by_one zero n h = refl
by_one (suc k) n h = rw (lt-ltb n 10 h, decimal_by)

by_more : (k n : ℕ) → 10 ≤ n → decimal_by (suc k) n ≡ decimal_by k (n / 10) ++ digit n ∷ []
unfolding decimal_by
by_more k n h = rw (le-ltb n 10 h, decimal_by)

-- n divisions are enough
by_enough : (j k n : ℕ) → n ≤ j → n ≤ k → decimal_by j n ≡ decimal_by k n
by_enough zero k n p q = by_one zero n (omega arith) ∙ sym (by_one k n (omega arith))
by_enough (suc j) zero n p q = by_one (suc j) n (omega arith) ∙ sym (by_one zero n (omega arith))
by_enough (suc j) (suc k) n p q = elim (decided (ltb n 10)) [
  | inl e ↦ by_one (suc j) n (lt_of e) ∙ sym (by_one (suc k) n (lt_of e))
  | inr e ↦ (let h : 10 ≤ n = ge_of e in
      by_more j n h ∙ ap (λ (l : List ℕ). l ++ digit n ∷ []) (by_enough j k (n / 10) (omega arith) (omega arith)) ∙ sym (by_more k n h))
]

pub decimal_one : (n : ℕ) → n < 10 → decimal n ≡ digit n ∷ []
unfolding decimal
decimal_one n h = by_one n n h

pub decimal_more : (n : ℕ) → 10 ≤ n → decimal n ≡ decimal (n / 10) ++ digit n ∷ []
unfolding decimal
decimal_more zero h = absurd (omega arith)
decimal_more (suc k) h = by_more k (suc k) h ∙ ap (λ (l : List ℕ). l ++ digit (suc k) ∷ []) (by_enough k (suc k / 10) (suc k / 10) (omega arith) (omega arith))
