-- What is left to do below the node come to is what was to be done (Down).
use Rattle.pool_check.proofs.Laws.{Down}
use Rattle.pool_check.proofs.trees.+walk.Given as goal

abbrev pub decreases-walk : goal.decreases-walk
decreases-walk g l = l.level

abbrev pub invariant-loop-level : goal.invariant-loop-level
invariant-loop-level g l = Down g.L.NodeLayout.reading l.nodes l.pool l.fn.level l.fn.k l.fn.i l.fn.work l.level l.k l.i l.work

abbrev pub decreases-loop-level : goal.decreases-loop-level
decreases-loop-level g l = l.level
