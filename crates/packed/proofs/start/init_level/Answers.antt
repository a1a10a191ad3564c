use Rattle.std.proofs.Common.{◌∙◌, arith}
use Rattle.packed.proofs.Laws.{level_step, level_end}
use Rattle.packed.proofs.start.init_level.Goals as goal

pub loop-j-preserved : goal.loop-j-preserved
loop-j-preserved c = rw (c.saturating_sub-k.ensures, c.set_node.ensures, c.links_of.ensures, c.node_if-right.ensures) (level_step _ _ _ _ _ _ c.loop-j-test.true ∙ c.loop-j.invariant)

pub returns : goal.returns
returns c = level_end _ _ _ _ _ (omega arith) ∙ c.loop-j.invariant
