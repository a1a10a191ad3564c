-- A turn takes the change-over of the first i nodes to that of the first i + 1: `one_packed`.
use Rattle.std.proofs.Common.{arith}
use Rattle.conversion.proofs.Laws.{none_packed, one_packed}
use Rattle.conversion.proofs.pack.pack_nodes.Goals as goal

pub loop-i-init : goal.loop-i-init
loop-i-init c = (none_packed _, omega arith)

pub loop-i-preserved : goal.loop-i-preserved
loop-i-preserved c = (one_packed c.args.nodes _ _ _ _ c.requires (omega arith) c.loop-i.invariant.0 c.pack_node.ensures, omega arith)
