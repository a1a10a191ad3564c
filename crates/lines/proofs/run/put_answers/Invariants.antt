-- The lines of the pairs before the place are written.
use Rattle.std.proofs.Common.{take}
use Rattle.std.specs.List.{flat_map}
use Rattle.lines.specs.Output.{Writes}
use Rattle.lines.proofs.Pairs.{pair_line}
use Rattle.lines.proofs.run.put_answers.Given as goal

abbrev pub invariant-loop-pair : goal.invariant-loop-pair
invariant-loop-pair l = Writes l.fn.output (flat_map pair_line (take l.pair-index l.pairs)) l.output
