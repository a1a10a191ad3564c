-- The nodes that are left make what the whole list makes.
use Rattle.std.proofs.Common.{◌≡◌}
use Rattle.packed.specs.Pool.{init_free}
use Rattle.packed.proofs.start.init_free.Given as goal

abbrev pub invariant-loop-left : goal.invariant-loop-left
invariant-loop-left l = init_free l.left l.pool l.i ≡ init_free l.count l.fn.pool l.first
