-- The way on from here meets nodes only, and ends where the whole way ends.
use Rattle.std.proofs.Common.{◌≡◌}
use Rattle.packed.specs.Links.{PathIn}
use Rattle.packed.specs.Pool.{leaf_of}
use Rattle.packed.proofs.tree.read_at.Given as goal

abbrev pub invariant-loop-l : goal.invariant-loop-l
invariant-loop-l l = PathIn l.nodes l.pool l.l l.i l.x × (leaf_of l.l l.pool l.i l.x ≡ leaf_of l.height l.pool l.root l.x)
