-- Main has not returned, or the word and the four totals are the line.
use Rattle.std.proofs.Common.{sym, ◌∙◌}
use Rattle.lines.proofs.LastLines.{reduced_none, reduced_written}
use Rattle.lines.proofs.run.put_reduced.Goals as goal

pub returns-then-not-main_returned : goal.returns-then-not-main_returned
returns-then-not-main_returned c = reduced_none c.args.numbers.now (sym c.if-not-main_returned.true ∙ c.main_returned.ensures)

pub returns : goal.returns
returns c =
    reduced_written c.args.numbers.now _ _ _ _ (sym c.if-not-main_returned.false ∙ c.main_returned.ensures) c.at_or.ensures c.at_or-2.ensures c.at_or-3.ensures c.at_or-4.ensures
    c.at_or.type_inv c.at_or-2.type_inv c.at_or-3.type_inv c.at_or-4.type_inv c.bytes.ensures c.line.ensures
