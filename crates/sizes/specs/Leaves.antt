-- How many splitters the group g of level l has, and how its two halves share them.
use Rattle.std.specs.Prelude.{◌≡◌, ℕ, suc, ◌+◌, ◌-◌, ◌*◌, ◌^◌, ◌≤◌, ◌<◌, min}
use Rattle.std.proofs.Common.{ap, ◌∙◌, arith, pow_pos}

unfoldable pub leaves : ℕ → ℕ → ℕ → ℕ
leaves n l g = min (2 ^ l) (n - g * 2 ^ l)

pub dbl : (l g : ℕ) → g * 2 ^ suc l ≡ 2 * (g * 2 ^ l)
dbl l g = ap (λ (q : ℕ). g * q) two ∙ omega arith
  where
    two : 2 ^ suc l ≡ 2 * 2 ^ l
    two = omega arith

pub leaves-left : (n l g : ℕ) → min (leaves n (suc l) g) (2 ^ l) ≡ leaves n l (2 * g)
unfolding leaves
leaves-left n l g = omega (arith, dbl l g)

pub leaves-right : (n l g : ℕ) → leaves n (suc l) g - 2 ^ l ≡ leaves n l (2 * g + 1)
unfolding leaves
leaves-right n l g = omega (arith, dbl l g)

pub leaves-sum : (n l g : ℕ) → leaves n (suc l) g ≡ leaves n l (2 * g) + leaves n l (2 * g + 1)
unfolding leaves
leaves-sum n l g = omega (arith, dbl l g)

pub leaves-some : (n l g : ℕ) → g * 2 ^ l < n → 0 < leaves n l g
unfolding leaves
leaves-some n l g h = omega (arith, pow_pos l)

pub leaves_none : (n l g : ℕ) → ¬ (g * 2 ^ l < n) → leaves n l g ≡ 0
unfolding leaves
leaves_none n l g h = omega arith

pub leaves_back : (n l g : ℕ) → 0 < leaves n l g → g * 2 ^ l < n
unfolding leaves
leaves_back n l g h = omega arith

pub leaves-top : (n l : ℕ) → n ≤ 2 ^ l → leaves n l 0 ≡ n
unfolding leaves
leaves-top n l h = omega arith

pub leaves_leaf : (n g : ℕ) → g * 2 ^ 0 < n → leaves n 0 g ≡ 1
unfolding leaves
leaves_leaf n g h = omega arith
