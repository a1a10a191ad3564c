-- Whether the nodes below i are right, and how many of them were not visited.
use Rattle.std.proofs.Common.{◌≡◌}
use Rattle.words.specs.Basics.{all}
use Rattle.pool_check.specs.Algorithm.{node_right, unvisited}
use Rattle.pool_check.proofs.free.scan.Given as goal

abbrev pub invariant-loop-i : goal.invariant-loop-i
invariant-loop-i g l = (l.right ≡ all l.i (node_right g.L.NodeLayout.reading l.pool l.work)) × (l.free ≡ unvisited l.i l.work)
