-- The digits of n - 1: their power of two covers n, and no lower one does.
use Rattle.std.proofs.Common.{◌≡◌, ℕ, suc, ◌+◌, ◌-◌, ◌*◌, ◌^◌, ◌≤◌, ◌<◌, sym, ◌∙◌, arith, pow_pos}
use Rattle.std.specs.Int.Count.{count_leading_zeros}
use Rattle.std.proofs.lemmas.Nat.{leading_length}
use Rattle.std.proofs.Math.Pow.{pow_mono}
use Rattle.sizes.specs.Sizes.{height}
use Rattle.sizes.specs.Heights.{height_is}
use Rattle.sizes.proofs.height_of.Goals as goal

by_digits : (n m : ℕ) → n - 1 < 2 ^ m → 2 ^ m ≤ 2 * (n - 1) + 1 → height n ≡ m
by_digits n m up low = height_is n m (omega arith) (λ k b. omega (arith, low, pow_mono {i = suc k} b, pow_pos k))

pub returns : goal.returns
returns c =
    let d = leading_length 32 c.saturating_sub.result (omega (arith, c.saturating_sub.type_inv)) in
    let m : 32 - count_leading_zeros 32 c.saturating_sub.result ≡ d.0 = omega (arith, d.1) in
    m ∙ sym (by_digits c.args.n d.0 (omega (arith, d.2, c.saturating_sub.ensures)) (omega (arith, d.3, c.saturating_sub.ensures)))
