-- This node has one holder, and the walk from here on finds what it finds from the root on.
use Rattle.packed.specs.Pool.{first_shared}
use Rattle.packed.proofs.Writing.{Walked}
use Rattle.packed.proofs.tree.first_shared.Given as goal

abbrev pub invariant-loop-level : goal.invariant-loop-level
invariant-loop-level l = Walked l.nodes l.level l.pool l.x l.node (first_shared l.height l.pool l.root l.root l.x)
