-- The numbers before the place are written.
use Rattle.std.proofs.Common.{take}
use Rattle.lines.specs.Lines.{spaced}
use Rattle.lines.specs.Output.{Writes}
use Rattle.lines.proofs.text.Output.spaced.Given as goal

abbrev pub invariant-loop-n : goal.invariant-loop-n
invariant-loop-n l = Writes l.fn.self (spaced (take l.n-index l.numbers)) l.self
