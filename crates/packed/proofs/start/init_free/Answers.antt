use Rattle.std.proofs.Common.{◌∙◌}
use Rattle.packed.proofs.Laws.{free_step, free_end}
use Rattle.packed.proofs.start.init_free.Goals as goal

pub loop-left-preserved : goal.loop-left-preserved
loop-left-preserved c = rw (c.set_node.ensures, c.node_if.ensures) (free_step _ _ _ c.loop-left-test.true ∙ c.loop-left.invariant)

pub returns : goal.returns
returns c = free_end _ _ _ c.loop-left-test.false ∙ c.loop-left.invariant
