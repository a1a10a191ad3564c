-- The number of the bytes that are read.
use Rattle.std.proofs.Common.{arith}
use Rattle.lines.specs.Lines.{number32_at}
use Rattle.lines.proofs.input.number32_at.Goals as goal

pub returns : goal.returns
unfolding number32_at
returns c = omega arith
