-- R-7: the two clock words of a place, where one of them is stored.
use Rattle.std.specs.Prelude.{◌≡◌, ◌≢◌, List, ℕ, suc, ◌*◌, ◌<◌, length, set}
use Rattle.std.proofs.Common.{arith, length-set, get_or-set_same, get_or-set_other}
use Rattle.semantics.specs.Timing.{own_clock, child_clock}

-- 2 * n clock words
module _ (ks : List ℕ) (n : ℕ) (long : length ks ≡ 2 * n) where
  -- ---- p's own clock is stored

  pub own_at : (p v : ℕ) → p < n → own_clock (set ks (2 * p) v) p ≡ v
  own_at p v b = get_or-set_same ks (2 * p) v 0 (omega (arith, long, b))

  pub own_else : (p v q : ℕ) → q ≢ p → own_clock (set ks (2 * p) v) q ≡ own_clock ks q
  own_else p v q d = get_or-set_other ks (2 * p) (2 * q) v 0 (λ z. d (omega (arith, z)))

  pub child_own : (p v q : ℕ) → child_clock (set ks (2 * p) v) q ≡ child_clock ks q
  child_own p v q = get_or-set_other ks (2 * p) (suc (2 * q)) v 0 (λ z. omega (arith, z))

  -- ---- the latest of its ended children's is stored

  pub child_at_lem : (p v : ℕ) → p < n → child_clock (set ks (suc (2 * p)) v) p ≡ v
  child_at_lem p v b = get_or-set_same ks (suc (2 * p)) v 0 (omega (arith, long, b))

  pub child_else : (p v q : ℕ) → q ≢ p → child_clock (set ks (suc (2 * p)) v) q ≡ child_clock ks q
  child_else p v q d = get_or-set_other ks (suc (2 * p)) (suc (2 * q)) v 0 (λ z. d (omega (arith, z)))

  pub own_child : (p v q : ℕ) → own_clock (set ks (suc (2 * p)) v) q ≡ own_clock ks q
  own_child p v q = get_or-set_other ks (suc (2 * p)) (2 * q) v 0 (λ z. omega (arith, z))

  pub long_set : (i v : ℕ) → length (set ks i v) ≡ 2 * n
  long_set i v = omega (arith, length-set ks i v, long)
