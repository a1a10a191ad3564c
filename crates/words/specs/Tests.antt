-- Tests as Bools, and the facts that they stand for.
use Rattle.std.specs.Prelude.{◌≡◌, ℕ, ◌<◌, ◌≤◌, Bool, true, false, not, ◌&&◌, ◌||◌, T, ◌⊎◌, ◌↔◌, nat_lt, refl}
use Rattle.std.proofs.Common.{sym, ◌∙◌, inl, inr, ltb→lt, lt→ltb, nltb→le}
use Rattle.std.proofs.Math.Arith.{le→nltb}

pub T→true : (b : Bool) → T b → b ≡ true
T→true true t = refl
T→true false t = absurd t

pub true→T : {b : Bool} → b ≡ true → T b
true→T e = rw e tt

pub false→T : {b : Bool} → b ≡ false → T (not b)
false→T e = rw e tt

pub true≢false : ◌≡◌ {A = Bool} true false → ⊥
true≢false e = true→T (sym e)

pub decided : (b : Bool) → (b ≡ true) ⊎ (b ≡ false)
decided true = inl refl
decided false = inr refl

pub both : (a b : Bool) → a && b ≡ true → (a ≡ true) × (b ≡ true)
both true b e = (refl, e)
both false b e = absurd (true≢false (sym e))

pub neither : (a b : Bool) → a || b ≡ false → (a ≡ false) × (b ≡ false)
neither true b e = absurd (true≢false e)
neither false b e = (refl, e)

pub lt_of : {a b : ℕ} → nat_lt a b ≡ true → a < b
lt_of {a} {b} e = ltb→lt a b (true→T e)

pub ltb_of : {a b : ℕ} → a < b → nat_lt a b ≡ true
ltb_of {a} {b} h = T→true (nat_lt a b) (lt→ltb a b h)

pub not-false : (b : Bool) → not b ≡ false → b ≡ true
not-false true e = refl
not-false false e = absurd (true≢false e)

pub not-true : (b : Bool) → not b ≡ true → b ≡ false
not-true false e = refl
not-true true e = absurd (true≢false (sym e))

pub nltb_of : {a b : ℕ} → b ≤ a → nat_lt a b ≡ false
nltb_of {a} {b} h = not-true (nat_lt a b) (T→true (not (nat_lt a b)) (le→nltb a b h))

pub ge_of : {a b : ℕ} → nat_lt a b ≡ false → b ≤ a
ge_of {a} {b} e = nltb→le a b (false→T e)

-- two tests of numbers that say the same
pub ltb_same : {a b c d : ℕ} → ((a < b) ↔ (c < d)) → nat_lt a b ≡ nat_lt c d
ltb_same {a} {b} {c} {d} h = elim (decided (nat_lt a b)) [
  | inl e ↦ e ∙ sym (ltb_of (h.0 (lt_of e)))
  | inr e ↦ e ∙ elim (decided (nat_lt c d)) [ inl f ↦ absurd (true≢false (sym (ltb_of (h.1 (lt_of f))) ∙ e)) | inr f ↦ sym f ]
]
