-- The byte at the place is written after those before it.
use Rattle.lines.proofs.Writes.{writes_nothing, bytes_turn}
use Rattle.lines.proofs.text.Output.bytes.Goals as goal

pub loop-byte-init : goal.loop-byte-init
loop-byte-init c = writes_nothing _

pub loop-byte-preserved : goal.loop-byte-preserved
loop-byte-preserved c = bytes_turn _ _ c.loop-byte-test.true c.loop-byte.invariant c.byte.ensures
