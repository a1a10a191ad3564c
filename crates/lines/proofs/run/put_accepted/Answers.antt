-- The lines of the answer words, that of the free nodes, and that of the totals.
use Rattle.lines.proofs.Sizes.{answers_short}
use Rattle.lines.proofs.Writes.{up_to_then}
use Rattle.lines.proofs.run.put_accepted.Goals as goal

pub returns : goal.returns
returns c = up_to_then (c.put_answers.ensures, answers_short _ (λ i. (c.type_inv.answers i).fits)) (up_to_then c.put_free.ensures c.put_reduced.ensures)
