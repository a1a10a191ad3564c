-- The trees of the places below f-index are visited, which gave the work slice.
use Rattle.std.proofs.Common.{◌≡◌, true}
use Rattle.pool_check.specs.Algorithm.{visit_places}
use Rattle.pool_check.proofs.trees.visit_places.Given as goal

abbrev pub invariant-loop-f : goal.invariant-loop-f
invariant-loop-f g l = visit_places g.L.NodeLayout.reading l.n l.height l.nodes l.frames l.pool l.f-index l.fn.work ≡ (l.work, true)
