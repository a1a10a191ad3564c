-- The number of the bytes that are read.
use Rattle.lines.specs.Lines.{splitters_in}
use Rattle.lines.proofs.input.splitters_in.Goals as goal

pub returns : goal.returns
unfolding splitters_in
returns c = c.number16_at.ensures
