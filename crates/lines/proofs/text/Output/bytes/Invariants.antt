-- The bytes before the place are written.
use Rattle.std.proofs.Common.{take}
use Rattle.lines.specs.Output.{Writes}
use Rattle.lines.proofs.text.Output.bytes.Given as goal

abbrev pub invariant-loop-byte : goal.invariant-loop-byte
invariant-loop-byte l = Writes l.fn.self (take l.byte-index l.bytes) l.self
