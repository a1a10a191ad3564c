-- With a number, and with none.
use Rattle.lines.proofs.Writes.{line_some, line_none}
use Rattle.lines.proofs.text.Output.line.Goals.{in_default, in-len1-up}
use Rattle.lines.proofs.text.Output.line.Goals as goal

pub returns : goal.returns
returns c = elim c.if-numbers-lt1.branch [
  | in_default w ↦ line_none _ w.in_default.len_below (rw w.self-is at c.byte.ensures)
  | in-len1-up w ↦ line_some _ w.in-len1-up.len_at_least w.number.ensures w.spaced.ensures (rw w.self-is at c.byte.ensures)
]
