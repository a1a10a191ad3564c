-- The laws of a node's children are in Laws, one for each way out.
use Rattle.std.proofs.Common.{◌≡◌, ℕ, ◌-◌, sym, ◌∙◌, arith}
use Rattle.pool_check.specs.Algorithm.{visit}
use Rattle.pool_check.proofs.Laws.{parts, pair, goes_on, answered, met_no, met_yes, met_below, walk_fails, walk_ends, walk-right}
use Rattle.pool_check.proofs.trees.+walk.Goals as goal
use Rattle.pool_check.proofs.trees.+walk.Goals.{Joined-meet, in-Refused, in-Done, in-First, in-First-2}

-- the left child is visited
joined : (g : _) (t : ℕ) (c : Joined-meet g t) → visit g.L.NodeLayout.reading c.args.nodes c.args.pool.now (c.loop-level.level - 1) c.left_part-part.result c.left-left.result c.loop-level.work ≡ (c.match-meet.work, c.match-meet.fine)
joined g t c =
    elim c.match-meet.branch [
      | in-Refused w ↦ rw (w.work-is, w.fine-is) (met_no g.L.NodeLayout.reading _ _ _ _ _ _ _ _ c.meet.ensures w.in-Refused.is)
      | in-Done w ↦ rw (w.work-is, w.fine-is) (met_yes g.L.NodeLayout.reading _ _ _ _ _ _ _ _ c.meet.ensures w.in-Done.is)
      | in-First w ↦ rw (w.work-is, w.fine-is) (met_below g.L.NodeLayout.reading _ _ _ _ _ _ _ _ c.meet.ensures w.in-First.is ∙ rw w.if-level-eq1.true (pair _ w.leaves-fine.ensures))
      | in-First-2 w ↦ rw (w.work-is, w.fine-is) (met_below g.L.NodeLayout.reading _ _ _ _ _ _ _ _ c.meet.ensures w.in-First.is ∙ pair _ w.walk-fine.ensures)
    ]

pub returns-then-not-fine : goal.returns-then-not-fine
returns-then-not-fine g t c =
    let inv = c.loop-level.invariant in
    let j = joined g t (goal.at.returns-then-not-fine g t c).Joined-meet in
    parts (walk_fails g.L.NodeLayout.reading _ _ _ _ _ _ inv.some c.left_part-part.ensures c.left-left.ensures j c.if-not-fine.true ∙ inv.same)

pub returns-then-k-eq0 : goal.returns-then-k-eq0
returns-then-k-eq0 g t c =
    let inv = c.loop-level.invariant in
    let j = joined g t (goal.at.returns-then-k-eq0 g t c).Joined-meet in
    rw c.is_none.ensures (parts (walk_ends g.L.NodeLayout.reading _ _ _ _ _ _ inv.some c.left_part-part.ensures c.left-left.ensures j c.if-not-fine.false c.right-right.ensures c.if-k-eq0.true ∙ inv.same))

-- the right child is met
pub returns-then-ne : goal.returns-then-ne
returns-then-ne g t c =
    let inv = c.loop-level.invariant in
    let j = joined g t (goal.at.returns-then-ne g t c).Joined-meet in
    parts
    (sym (c.meet-arrival.ensures.is ∙ answered _ _ _ (sym c.ne.ensures ∙ c.if-ne.true) c.eq.ensures)
    ∙ walk-right g.L.NodeLayout.reading _ _ _ _ _ _ inv.some c.left_part-part.ensures c.left-left.ensures j c.if-not-fine.false c.right-right.ensures c.if-k-eq0.false ∙ inv.same)

pub loop-level-preserved : goal.loop-level-preserved
loop-level-preserved g t c =
    let inv = c.loop-level.invariant in
    let j = joined g t (goal.at.loop-level-preserved g t c).Joined-meet in
    let e = goes_on _ (sym c.ne.ensures ∙ c.if-ne.false) in
    let f = c.meet-arrival.ensures.first e in
    record {
      same =
          sym (met_below g.L.NodeLayout.reading _ _ _ _ _ _ _ _ c.meet-arrival.ensures e)
          ∙ walk-right g.L.NodeLayout.reading _ _ _ _ _ _ inv.some c.left_part-part.ensures c.left-left.ensures j c.if-not-fine.false c.right-right.ensures c.if-k-eq0.false ∙ inv.same;
      size = c.meet-arrival.auto.work ∙ c.match-meet.auto.work ∙ c.meet.auto.work ∙ inv.size;
      node = f.0;
      some = f.1;
      most = omega arith;
      part = omega arith;
    }
