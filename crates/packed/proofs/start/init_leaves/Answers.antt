use Rattle.std.proofs.Common.{◌∙◌, rules, arith}
use Rattle.packed.proofs.Laws.{leaves_step, leaves_end}
use Rattle.packed.proofs.start.init_leaves.Goals as goal

pub loop-j-preserved : goal.loop-j-preserved
loop-j-preserved c = rw (c.set_node.ensures, c.at_or.ensures) (leaves_step _ _ _ _ _ (search rules) c.loop-j-test.true ∙ c.loop-j.invariant)

pub returns : goal.returns
returns c = leaves_end _ _ _ _ _ (omega arith) ∙ c.loop-j.invariant
