-- The number of the bytes that are read.
use Rattle.lines.specs.Lines.{workers_in}
use Rattle.lines.proofs.input.workers_in.Goals as goal

pub returns : goal.returns
unfolding workers_in
returns c = c.number16_at.ensures
