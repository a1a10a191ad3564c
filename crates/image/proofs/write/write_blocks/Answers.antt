use Rattle.std.proofs.Common.{arith, drop, refl, take, ◌*◌}
use Rattle.image.proofs.Loops.{at_end, block_turn}
use Rattle.image.specs.Inner.{put_words}
use Rattle.image.proofs.write.write_blocks.Goals as goal

pub loop-k-init : goal.loop-k-init
unfolding put_words
loop-k-init c = refl

pub loop-k-preserved : goal.loop-k-preserved
loop-k-preserved c = block_turn c.args.target.now c.loop-k.target _ c.args.from.now c.args.b c.args.j c.loop-k.k (omega arith) c.loop-k.invariant c.write_block.ensures

pub returns : goal.returns
returns c = at_end (λ m. put_words c.args.target.now (127 * c.args.b) (take (127 * m) (drop c.args.j c.args.from.now))) c.loop-k.auto.k-end c.loop-k-test.false c.loop-k.invariant
