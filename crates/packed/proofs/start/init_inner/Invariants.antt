-- The levels that are left make what all of them make.
use Rattle.std.proofs.Common.{◌≡◌}
use Rattle.packed.specs.Pool.{init_inner}
use Rattle.packed.proofs.start.init_inner.Given as goal

abbrev pub invariant-loop-l : goal.invariant-loop-l
invariant-loop-l l = init_inner l.l l.pool l.n l.i ≡ init_inner l.height l.fn.pool l.n l.first
