-- After i nodes the pool is the change-over of its first i nodes; the measure is the nodes left.
use Rattle.std.proofs.Common.{◌≡◌, ◌-◌, ◌≤◌}
use Rattle.packed.specs.Pack.{converted}
use Rattle.conversion.proofs.pack.pack_nodes.Given as goal

abbrev pub invariant-loop-i : goal.invariant-loop-i
invariant-loop-i l = (l.pool ≡ converted l.i l.fn.pool) × (l.i ≤ l.nodes)

abbrev pub decreases-loop-i : goal.decreases-loop-i
decreases-loop-i l = l.nodes - l.i
