use Rattle.std.proofs.Common.{refl, ◌∙◌, arith}
use Rattle.std.proofs.lemmas.List.{length-take-le}
use Rattle.pool_check.proofs.Laws.{pair, frame_in, visited_begins, visited_live, visited_dead, visited_fails, visited_ends}
use Rattle.pool_check.proofs.trees.visit_places.Goals as goal
use Rattle.pool_check.proofs.trees.visit_places.Goals.{else-f-eq1-via-then-f-eq1+else-not-visit, else-f-eq1-via-else-f-eq1}

pub loop-f-init : goal.loop-f-init
loop-f-init g c = visited_begins g.L.NodeLayout.reading _ _ _ _ _ _

pub returns-then-not-visit : goal.returns-then-not-visit
returns-then-not-visit g c =
    let size = length-take-le c.args.end c.args.frames.now c.requires.1.0 in
    visited_fails g.L.NodeLayout.reading _ _ _ _ _ _ c.height_of-height.ensures
    (visited_live g.L.NodeLayout.reading _ _ _ _ _ _ _ c.loop-f.invariant (frame_in _ _ _ c.loop-f-test.true) c.if-f-eq1.true (pair _ c.visit.ensures ∙ rw c.if-not-visit.true refl)) (omega arith)

pub loop-f-preserved : goal.loop-f-preserved
loop-f-preserved g c =
    elim c.else-f-eq1.branch [
      | else-f-eq1-via-then-f-eq1+else-not-visit w ↦ rw w.work-is (visited_live g.L.NodeLayout.reading _ _ _ _ _ _ _ c.loop-f.invariant (frame_in _ _ _ c.loop-f-test.true) w.if-f-eq1.true (pair _ w.visit.ensures ∙ rw w.if-not-visit.false refl))
      | else-f-eq1-via-else-f-eq1 w ↦ rw w.work-is (visited_dead g.L.NodeLayout.reading _ _ _ _ _ _ _ c.loop-f.invariant (frame_in _ _ _ c.loop-f-test.true) w.if-f-eq1.false)
    ]

pub returns : goal.returns
returns g c =
    let size = length-take-le c.args.end c.args.frames.now c.requires.1.0 in
    visited_ends g.L.NodeLayout.reading _ _ _ _ _ _ c.height_of-height.ensures c.requires.1 c.loop-f.invariant (omega arith) (omega arith)
