use Rattle.std.proofs.Common.{ap, arith, ℕ, ◌%◌, ◌*◌, ◌+◌, ◌∙◌}
use Rattle.image.proofs.Loops.{block_end, sum_turn}
use Rattle.image.specs.Image.{word_at}
use Rattle.image.proofs.sums.block_check.Goals as goal

pub loop-j-preserved : goal.loop-j-preserved
loop-j-preserved c =
    ap (λ (x : ℕ). (c.loop-j.sum + x) % 4294967296) c.word_at-sum.ensures
    ∙ sum_turn (λ k. word_at c.args.image.now (c.args.at + 4 * k)) c.loop-j.j c.loop-j.sum c.loop-j.invariant

pub returns : goal.returns
returns c = block_end c.args.image.now c.args.at c.loop-j.j c.loop-j.sum (omega arith) (omega arith) c.loop-j.invariant
