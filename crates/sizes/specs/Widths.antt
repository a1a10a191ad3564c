-- Group g of level l exists if and only if it has a splitter: g * 2^l < n.
use Rattle.std.specs.Prelude.{◌≡◌, ◌↔◌, ℕ, suc, ◌+◌, ◌-◌, ◌*◌, ◌^◌, ◌/◌, ◌≤◌, ◌<◌}
use Rattle.std.proofs.Common.{ap, ◌∙◌, arith, le-div_iff_mul-le, div-le_self, pow_pos}
use Rattle.std.proofs.Math.Nat.{add-div_right, div-eq_of_lt}
use Rattle.std.proofs.Math.Decide.{dec_le}
use Rattle.sizes.specs.Sizes.{width}

pub width_in : (n l g : ℕ) → g * 2 ^ l < n → g < width n l
unfolding width
width_in n l g h = (le-div_iff_mul-le (pow_pos l)).1 (omega (arith, pow_pos l))

pub in_width : (n l g : ℕ) → g < width n l → g * 2 ^ l < n
unfolding width
in_width n l g h = omega (arith, (le-div_iff_mul-le {k = 2 ^ l} {x = suc g} (pow_pos l)).0 h, pow_pos l)

-- no splitter, no node
pub width_zero : (l : ℕ) → width 0 l ≡ 0
unfolding width
width_zero l = div-eq_of_lt (omega (arith, pow_pos l))

-- the last splitter's group is the last
pub width_pos : (n l : ℕ) → 0 < n → width n l ≡ (n - 1) / 2 ^ l + 1
unfolding width
width_pos n l h = ap (λ q. q / 2 ^ l) e ∙ add-div_right (n - 1) (pow_pos l)
  where
    e : n + (2 ^ l - 1) ≡ n - 1 + 2 ^ l
    e = omega (arith, pow_pos l)

-- a level that covers all splitters has one node
pub width_one : (n l : ℕ) → 0 < n → n ≤ 2 ^ l → width n l ≡ 1
width_one n l h c = width_pos n l h ∙ ap (λ q. q + 1) (div-eq_of_lt (omega arith))

-- a level has at most n nodes
pub width_le : (n l : ℕ) → width n l ≤ n
width_le n l = elim (dec_le n 0) [
  | yes p ↦ (let e : n ≡ 0 = omega arith in omega (arith, ap (λ q. width q l) e, width_zero l))
  | no p ↦ omega (arith, width_pos n l (omega arith), div-le_self (n - 1) (2 ^ l))
]

-- a group of level l + 1 has a left half, and a right half if and only if that has a splitter
pub left-half : (n l g : ℕ) → g < width n (suc l) → 2 * g < width n l
left-half n l g h = width_in n l (2 * g) (omega (arith, in_width n (suc l) g h, mul_two l g))
  where
    mul_two : (l g : ℕ) → g * 2 ^ suc l ≡ 2 * g * 2 ^ l
    mul_two l g = ap (λ q. g * q) e ∙ omega arith
      where
        e : 2 ^ suc l ≡ 2 * 2 ^ l
        e = omega arith

pub right-half : (n l g : ℕ) → ((2 * g + 1) * 2 ^ l < n) ↔ (2 * g + 1 < width n l)
right-half n l g = (width_in n l (2 * g + 1), in_width n l (2 * g + 1))
