-- Bits of a splitter number, and its group at a level.
use Rattle.std.specs.Prelude.{◌≡◌, refl, ◌≢◌, ◌⊎◌, ℕ, zero, suc, ◌+◌, ◌-◌, ◌*◌, ◌^◌, ◌/◌, ◌%◌, ◌≤◌, ◌<◌}
use Rattle.std.proofs.Common.{sym, ap, ◌∙◌, subst, inl, inr, arith, mod-lt, mod-eq_of_lt, pow_pos, shr_lt, shr-shr}
use Rattle.std.proofs.Math.Decide.{ℕ_discrete, dec_le}
use Rattle.std.proofs.lemmas.Nat.{mod-pow-add, and_mask}
use Rattle.std.specs.Int.Bits.{bit_and}
use Rattle.sizes.specs.Sizes.{bit}

pub bit_lt : (l x : ℕ) → bit l x < 2
unfolding bit
bit_lt l x = mod-lt (x / 2 ^ l) (omega arith)

low : (l x : ℕ) → x % 2 ^ suc l ≡ bit l x * 2 ^ l + x % 2 ^ l
unfolding bit
low l x = ap (λ (q : ℕ). x % 2 ^ q) (omega arith) ∙ mod-pow-add x 1 l

pub low0 : (l x : ℕ) → bit l x ≡ 0 → x % 2 ^ suc l ≡ x % 2 ^ l
low0 l x e = low l x ∙ ap (λ (b : ℕ). b * 2 ^ l + x % 2 ^ l) e ∙ omega arith

pub low1 : (l x : ℕ) → bit l x ≡ 1 → x % 2 ^ suc l ≡ 2 ^ l + x % 2 ^ l
low1 l x e = low l x ∙ ap (λ (b : ℕ). b * 2 ^ l + x % 2 ^ l) e ∙ omega arith

pub low_lt : (l x : ℕ) → x % 2 ^ l < 2 ^ l
low_lt l x = mod-lt x (pow_pos l)

-- the bits from k to l - 1 agree; one of them differs
abbrev pub Agree : ℕ → ℕ → ℕ → ℕ → Type 0
Agree k l x y = (m : ℕ) → k ≤ m → m < l → bit m x ≡ bit m y

abbrev pub Differ : ℕ → ℕ → ℕ → ℕ → Type 0
Differ k l x y = (m : ℕ) × (k ≤ m) × (m < l) × (bit m x ≢ bit m y)

pub agree_differ : (k l x y : ℕ) → Agree k l x y ⊎ Differ k l x y
agree_differ k zero x y = inl (λ m a b. absurd (omega arith))
agree_differ k (suc l) x y = elim (ℕ_discrete (bit l x) (bit l y)) [
  | yes e ↦ up (agree_differ k l x y) e
  | no e ↦ elim (dec_le k l) [ yes h ↦ inr (l, h, omega arith, e) | no h ↦ inl (λ m a b. absurd (omega arith)) ]
]
  where
    up : Agree k l x y ⊎ Differ k l x y → bit l x ≡ bit l y → Agree k (suc l) x y ⊎ Differ k (suc l) x y
    up (inl f) e = inl (λ m a b. elim (ℕ_discrete m l) [ yes q ↦ ap (λ (i : ℕ). bit i x) q ∙ e ∙ ap (λ (i : ℕ). bit i y) (sym q) | no q ↦ f m a (omega arith) ])
    up (inr d) e = inr (d.0, d.1, omega (arith, d.2), d.3)

pub agree_low : (l x y : ℕ) → Agree 0 l x y → x % 2 ^ l ≡ y % 2 ^ l
agree_low zero x y h = omega (arith, low_lt 0 x, low_lt 0 y)
agree_low (suc l) x y h =
    let i = agree_low l x y (λ m a b. h m a (omega arith)) in
    let e = h l (omega arith) (omega arith) in
    elim (ℕ_discrete (bit l x) 0) [
      | yes z ↦ low0 l x z ∙ i ∙ sym (low0 l y (sym e ∙ z))
      | no z ↦ omega (arith, low1 l x (omega (arith, bit_lt l x)), low1 l y (omega (arith, bit_lt l x)), i)
    ]

bit_shift : (k m x : ℕ) → bit m (x / 2 ^ k) ≡ bit (k + m) x
unfolding bit
bit_shift k m x = ap (λ (q : ℕ). q % 2) (shr-shr x k m)

-- one group at level k
pub group_agree : (k l x y : ℕ) → x / 2 ^ k ≡ y / 2 ^ k → Agree k l x y
group_agree k l x y e m a b =
    let s : k + (m - k) ≡ m = omega arith in
    ap (λ (i : ℕ). bit i x) (sym s) ∙ sym (bit_shift k (m - k) x) ∙ ap (bit (m - k)) e ∙ bit_shift k (m - k) y ∙ ap (λ (i : ℕ). bit i y) s

pub agree_group : (k l x y : ℕ) → k ≤ l → x < 2 ^ l → y < 2 ^ l → Agree k l x y → x / 2 ^ k ≡ y / 2 ^ k
agree_group k l x y h bx by g =
    sym (mod-eq_of_lt (shr_lt (l - k) k (subst (λ (q : ℕ). x < 2 ^ q) s bx)))
    ∙ agree_low (l - k) (x / 2 ^ k) (y / 2 ^ k) (λ m a b. bit_shift k m x ∙ g (k + m) (omega arith) (omega arith) ∙ sym (bit_shift k m y))
    ∙ mod-eq_of_lt (shr_lt (l - k) k (subst (λ (q : ℕ). y < 2 ^ q) s by))
  where
    s : l ≡ (l - k) + k
    s = omega arith

pub differ_group : (k l x y : ℕ) → Differ k l x y → x / 2 ^ k ≢ y / 2 ^ k
differ_group k l x y d e = d.3 (group_agree k l x y e d.0 d.1 d.2)

pub agree_refl : (k l x : ℕ) → Agree k l x x
agree_refl k l x m a b = refl

-- the shift and mask of the code
pub bit_mask : (l x : ℕ) → bit_and (x / 2 ^ l) 1 ≡ bit l x
unfolding bit
bit_mask l x = and_mask (x / 2 ^ l) 1
