-- The height is the least that covers n.
use Rattle.std.specs.Prelude.{◌≡◌, ℕ, zero, suc, ◌+◌, ◌^◌, ◌≤◌, ◌<◌}
use Rattle.std.proofs.Common.{sym, subst, arith, le-leb}
use Rattle.std.proofs.Math.Decide.{ℕ_discrete, dec_le}
use Rattle.std.proofs.lemmas.Bool.{lt-leb}
use Rattle.sizes.specs.Sizes.{height_from, height}

-- a number is below its power of two
pub lt_pow : (n : ℕ) → n < 2 ^ n
lt_pow zero = omega arith
lt_pow (suc n) = omega (arith, lt_pow n)

-- l is the least that covers n, if all below l do not and h covers it
pub height_from_lem : (fuel l n h : ℕ) → h ≤ l + fuel → l ≤ h → n ≤ 2 ^ h → ((k : ℕ) → k < h → 2 ^ k < n) → height_from fuel l n ≡ h
height_from_lem zero l n h a b c d = omega arith
height_from_lem (suc fuel) l n h a b c d = elim (ℕ_discrete l h) [
  | yes e ↦ rw (le-leb n (2 ^ l) (subst (λ q. n ≤ 2 ^ q) (sym e) c)) e
  | no e ↦ rw (lt-leb n (2 ^ l) (d l (omega arith))) (height_from_lem fuel (suc l) n h (omega arith) (omega arith) c d)
]

pub height_is : (n h : ℕ) → n ≤ 2 ^ h → ((k : ℕ) → k < h → 2 ^ k < n) → height n ≡ h
unfolding height
height_is n h c d = height_from_lem n 0 n h low (omega arith) c d
  where
    low : h ≤ 0 + n
    low = elim (dec_le h n) [ yes p ↦ omega arith | no p ↦ absurd (omega (arith, d n (omega arith), lt_pow n)) ]

from_covers : (fuel l n : ℕ) → n ≤ 2 ^ (l + fuel) → n ≤ 2 ^ height_from fuel l n
from_covers zero l n h = subst (λ q. n ≤ 2 ^ q) e h
  where
    e : l + 0 ≡ l
    e = omega arith
from_covers (suc fuel) l n h = elim (dec_le n (2 ^ l)) [
  | yes p ↦ rw (le-leb n (2 ^ l) p) p
  | no p ↦ rw (lt-leb n (2 ^ l) (omega arith)) (from_covers fuel (suc l) n (subst (λ q. n ≤ 2 ^ q) e h))
]
  where
    e : l + suc fuel ≡ suc l + fuel
    e = omega arith

pub height_covers : (n : ℕ) → n ≤ 2 ^ height n
unfolding height
height_covers n = from_covers n 0 n (subst (λ q. n ≤ 2 ^ q) e (omega (arith, lt_pow n)))
  where
    e : n ≡ 0 + n
    e = omega arith

from_least : (fuel l n k : ℕ) → ((j : ℕ) → j < l → 2 ^ j < n) → k < height_from fuel l n → 2 ^ k < n
from_least zero l n k a b = a k b
from_least (suc fuel) l n k a b = elim (dec_le n (2 ^ l)) [
  | yes p ↦ a k (rw (le-leb n (2 ^ l) p) at b)
  | no p ↦ from_least fuel (suc l) n k (λ j c. elim (ℕ_discrete j l) [ yes e ↦ subst (λ q. 2 ^ q < n) (sym e) (omega arith) | no e ↦ a j (omega arith) ]) (rw (lt-leb n (2 ^ l) (omega arith)) at b)
]

pub height_least : (n k : ℕ) → k < height n → 2 ^ k < n
unfolding height
height_least n k h = from_least n 0 n k (λ j b. absurd (omega arith)) h

pub height_le : (n h : ℕ) → n ≤ 2 ^ h → height n ≤ h
height_le n h c = elim (dec_le (height n) h) [ yes p ↦ p | no p ↦ absurd (omega (arith, height_least n h (omega arith))) ]
