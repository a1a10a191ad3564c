-- One digit, or the digits before it and that one.
use Rattle.lines.proofs.Writes.{number_one, number_more}
use Rattle.lines.proofs.text.Output.+number.Goals.{then-n-ge10, else-n-ge10}
use Rattle.lines.proofs.text.Output.+number.Goals as goal

pub returns : goal.returns
returns t c = elim c.if-n-ge10.branch [
  | then-n-ge10 w ↦ number_more _ w.if-n-ge10.true w.number.ensures (rw (w.self-is, c.digit_of.ensures) at c.byte.ensures)
  | else-n-ge10 w ↦ number_one _ w.if-n-ge10.false (rw (w.self-is, c.digit_of.ensures) at c.byte.ensures)
]
