-- The pair at the place is written after those before it; the pairs are those of the answer words.
use Rattle.std.specs.List.{flat_map}
use Rattle.std.proofs.Common.{◌∙◌, ap, take_all}
use Rattle.lines.proofs.Writes.{writes_nothing, writes_same, each_turn}
use Rattle.lines.proofs.Pairs.{pair_line, pairs_lines}
use Rattle.lines.proofs.run.put_answers.Goals as goal

pub loop-pair-init : goal.loop-pair-init
loop-pair-init c = writes_nothing _

pub loop-pair-preserved : goal.loop-pair-preserved
loop-pair-preserved c = each_turn pair_line _ _ _ c.loop-pair-test.true c.loop-pair.invariant c.line.ensures

pub returns : goal.returns
returns c = writes_same (ap (flat_map pair_line) (take_all _ _ c.loop-pair-test.false ∙ c.as_chunks.ensures.front) ∙ pairs_lines c.args.answers.now) c.loop-pair.invariant
