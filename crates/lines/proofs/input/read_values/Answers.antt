-- A turn and the end of the loop are in `proofs.Loops`.
use Rattle.std.proofs.Common.{arith}
use Rattle.lines.proofs.Loops.{values_turn, values_end}
use Rattle.lines.proofs.input.read_values.Goals as goal

pub loop-i-preserved : goal.loop-i-preserved
loop-i-preserved c = values_turn _ _ _ _ _ (omega arith) c.loop-i.auto.values c.number32_at.ensures c.loop-i.invariant

pub returns : goal.returns
returns c = values_end _ _ _ _ _ c.loop-i-test.false c.loop-i.auto.values c.loop-i.invariant
