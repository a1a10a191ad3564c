-- The number at the place is written after those before it.
use Rattle.std.proofs.Common.{◌∷◌}
use Rattle.lines.specs.Lines.{decimal}
use Rattle.lines.proofs.Writes.{writes_nothing, writes_then, each_turn}
use Rattle.lines.proofs.text.Output.spaced.Goals as goal

pub loop-n-init : goal.loop-n-init
loop-n-init c = writes_nothing _

pub loop-n-preserved : goal.loop-n-preserved
loop-n-preserved c = each_turn (λ n. 32 ∷ decimal n) _ _ 0 c.loop-n-test.true c.loop-n.invariant (writes_then c.byte.ensures c.number.ensures)
