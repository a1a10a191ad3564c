-- The leaves that are left make what all of them make.
use Rattle.std.proofs.Common.{◌≡◌, ◌-◌}
use Rattle.words.specs.Basics.{plus}
use Rattle.packed.specs.Pool.{init_leaves}
use Rattle.packed.proofs.start.init_leaves.Given as goal

abbrev pub invariant-loop-j : goal.invariant-loop-j
invariant-loop-j l = init_leaves (l.n - l.j) l.pool (plus l.first l.j) l.values l.j ≡ init_leaves l.n l.fn.pool l.first l.values 0
