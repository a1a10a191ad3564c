-- One law for each way out.
use Rattle.std.proofs.Common.{sym, ◌∙◌}
use Rattle.pool_check.proofs.Laws.{met_off, met_same, met_other, met_shapeless, met_leaf, met_first}
use Rattle.pool_check.proofs.trees.meet.Goals as goal

pub returns-then-i-nodes : goal.returns-then-i-nodes
returns-then-i-nodes g c = met_off g.L.NodeLayout.reading _ _ _ _ _ _ c.if-i-nodes.true

pub returns-then-word-stamp : goal.returns-then-word-stamp
returns-then-word-stamp g c = met_same g.L.NodeLayout.reading _ _ _ _ _ _ c.if-i-nodes.false c.if-word-ne0.true c.if-word-stamp.true

pub returns-else-word-stamp : goal.returns-else-word-stamp
returns-else-word-stamp g c = met_other g.L.NodeLayout.reading _ _ _ _ _ _ c.if-i-nodes.false c.if-word-ne0.true c.if-word-stamp.false

pub returns-then-not-is_shaped : goal.returns-then-not-is_shaped
returns-then-not-is_shaped g c = met_shapeless g.L.NodeLayout.reading _ _ _ _ _ _ c.if-i-nodes.false c.if-word-ne0.false (sym c.is_shaped.ensures ∙ c.if-not-is_shaped.true)

pub returns-then-level-eq0 : goal.returns-then-level-eq0
returns-then-level-eq0 g c = met_leaf g.L.NodeLayout.reading _ _ _ _ _ _ c.if-i-nodes.false c.if-word-ne0.false (sym c.is_shaped.ensures ∙ c.if-not-is_shaped.false) c.if-level-eq0.true

pub returns-else-level-eq0 : goal.returns-else-level-eq0
returns-else-level-eq0 g c = met_first g.L.NodeLayout.reading _ _ _ _ _ _ c.if-i-nodes.false c.if-word-ne0.false (sym c.is_shaped.ensures ∙ c.if-not-is_shaped.false) c.if-level-eq0.false
