-- A sum of at most 33 widths, each at most n.
use Rattle.std.proofs.Common.{◌≡◌, ℕ, ◌+◌, ◌*◌, ◌≤◌, ◌<◌, ◌^◌, arith}
use native.Mathlib.Nat.{mul-le-mul}
use Rattle.words.specs.Basics.{sum}
use Rattle.words.specs.Counting.{sum_le}
use Rattle.sizes.specs.Sizes.{height, width, tree_nodes}
use Rattle.sizes.specs.Heights.{height_le}
use Rattle.sizes.specs.Widths.{width_le}
use Rattle.sizes.proofs.tree_nodes.Goals as goal

below : (n l t : ℕ) → n < 2 ^ 32 → l ≤ 32 → t ≡ sum l (width n) → t ≤ 32 * 2 ^ 32
below n l t small h e = omega (arith, sum_le l n (width n) (width_le n), mul-le-mul {n₁ = l} {m₁ = n} {n₂ = 32} {m₂ = 2 ^ 32} h (omega arith))

pub overflow_add-total : goal.overflow_add-total
overflow_add-total c =
    let top : c.loop-l.l ≤ 32 = omega (arith, c.loop-l-test.true, c.height_of-l-end.ensures, height_le c.args.n 32 (omega arith)) in
    record { fits = omega (arith, below c.args.n c.loop-l.l c.loop-l.total (omega arith) top c.loop-l.invariant, c.width_of.type_inv) }

summed : (n l w t : ℕ) → w ≡ width n l → t ≡ sum l (width n) → l ≡ height n → t + w ≡ tree_nodes n
unfolding tree_nodes
summed n l w t ew et el = rw (ew, et, el)

pub returns-2 : goal.returns-2
returns-2 c = summed c.args.n c.loop-l.l _ _ c.width_of.ensures c.loop-l.invariant (omega (arith, c.height_of-l-end.ensures, c.loop-l-test.true))
