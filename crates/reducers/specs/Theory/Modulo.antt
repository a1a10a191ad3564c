-- Sums and products modulo m: what is taken modulo m within is not seen.
use Rattle.std.specs.Prelude.{◌≡◌, ℕ, ◌+◌, ◌*◌, ◌/◌, ◌%◌}
use Rattle.std.proofs.Common.{sym, ap, ◌∙◌, add-mul, mul_assoc, add_assoc, mul_comm}
use Rattle.std.proofs.Math.Nat.{mod-add-mod, add-mod-mod, mod-add-div, add-mul-mod_self_left}

-- a = a % m + m * (a / m)
mod_mul_mod : (m a b : ℕ) → a % m * b % m ≡ a * b % m
mod_mul_mod m a b = sym (
    ap (λ (x : ℕ). x * b % m) (sym (mod-add-div a m))
    ∙ ap (λ (x : ℕ). x % m) (add-mul (a % m) (m * (a / m)) b ∙ ap (λ (x : ℕ). a % m * b + x) (mul_assoc m (a / m) b))
    ∙ add-mul-mod_self_left (a % m * b) m (a / m * b))

pub mul_mod_mod : (m a b : ℕ) → a * (b % m) % m ≡ a * b % m
mul_mod_mod m a b = ap (λ (x : ℕ). x % m) (mul_comm a (b % m)) ∙ mod_mul_mod m b a ∙ ap (λ (x : ℕ). x % m) (mul_comm b a)

-- x plus a, then plus b
pub plus_twice : (m x a b : ℕ) → (x + (a + b) % m) % m ≡ ((x + a) % m + b) % m
plus_twice m x a b = simp (mod-add-mod, add-mod-mod) (ap (λ (k : ℕ). k % m) (sym (add_assoc x a b)))

-- x times p plus d, then times q plus e
pub affine_twice : (m x p d q e : ℕ) → (x * (p * q % m) % m + (d * q % m + e) % m) % m ≡ ((x * p % m + d) % m * q % m + e) % m
affine_twice m x p d q e = simp (mod-add-mod, add-mod-mod, mod_mul_mod, mul_mod_mod) (ap (λ (k : ℕ). k % m) (sym regrouped))
  where
    regrouped : (x * p + d) * q + e ≡ x * (p * q) + (d * q + e)
    regrouped = rw (add-mul (x * p) d q, mul_assoc x p q, add_assoc (x * (p * q)) (d * q) e)
