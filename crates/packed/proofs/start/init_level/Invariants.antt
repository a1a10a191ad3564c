-- The nodes that are left make what the whole level makes.
use Rattle.std.proofs.Common.{◌≡◌, ◌-◌}
use Rattle.words.specs.Basics.{plus}
use Rattle.packed.specs.Pool.{init_level}
use Rattle.packed.proofs.start.init_level.Given as goal

abbrev pub invariant-loop-j : goal.invariant-loop-j
invariant-loop-j l = init_level (l.count - l.j) l.pool (plus l.first l.j) l.below l.k ≡ init_level l.count l.fn.pool l.first l.lead l.under
