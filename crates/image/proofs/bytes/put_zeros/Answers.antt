use Rattle.std.proofs.Common.{replicate}
use Rattle.std.proofs.lemmas.List.Edits.{sets}
use Rattle.image.proofs.Loops.{at_end, zeros_turn}
use Rattle.image.proofs.bytes.put_zeros.Goals as goal

pub loop-k-preserved : goal.loop-k-preserved
loop-k-preserved c = zeros_turn c.args.bytes.now c.loop-k.bytes c.args.at c.loop-k.k c.loop-k.invariant

pub returns : goal.returns
returns c = at_end (λ m. sets c.args.bytes.now c.args.at (replicate m 0)) c.loop-k.auto.k-end c.loop-k-test.false c.loop-k.invariant
