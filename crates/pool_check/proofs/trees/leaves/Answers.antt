-- The laws of a node of level 1.
use Rattle.std.proofs.Common.{sym, ◌∙◌, arith}
use Rattle.pool_check.proofs.Laws.{parts, pair, walk_fails, walk_ends, walk-right}
use Rattle.pool_check.proofs.trees.leaves.Goals as goal

pub returns-then-not-visit_leaf : goal.returns-then-not-visit_leaf
returns-then-not-visit_leaf g c = parts (walk_fails g.L.NodeLayout.reading _ _ 1 _ _ _ (omega arith) c.left_part-part.ensures c.left-left.ensures (pair _ c.visit_leaf.ensures) c.if-not-visit_leaf.true)

-- the left leaf is done
pub returns-then-rest-eq0 : goal.returns-then-rest-eq0
returns-then-rest-eq0 g c = rw c.is_none.ensures (parts (walk_ends g.L.NodeLayout.reading _ _ 1 _ _ _ (omega arith) c.left_part-part.ensures c.left-left.ensures (pair _ c.visit_leaf.ensures) c.if-not-visit_leaf.false c.right-right.ensures c.if-rest-eq0.true))

pub returns : goal.returns
returns g c =
    parts (sym (pair _ c.visit_leaf-2.ensures)
    ∙ walk-right g.L.NodeLayout.reading _ _ 1 _ _ _ (omega arith) c.left_part-part.ensures c.left-left.ensures (pair _ c.visit_leaf.ensures) c.if-not-visit_leaf.false c.right-right.ensures c.if-rest-eq0.false)
