use Rattle.std.proofs.Common.{refl, ◌*◌}
use Rattle.std.proofs.lemmas.List.Edits.{sets}
use Rattle.image.proofs.Loops.{at_end, read_block}
use Rattle.image.specs.Inner.{read_words}
use Rattle.image.proofs.read.read_blocks.Goals as goal

pub loop-k-init : goal.loop-k-init
unfolding read_words
loop-k-init c = refl

pub loop-k-preserved : goal.loop-k-preserved
loop-k-preserved c = read_block c.args.to.now c.loop-k.to _ c.args.image.now c.args.b c.args.j c.loop-k.k c.loop-k.invariant c.read_block.ensures

pub returns : goal.returns
returns c = at_end (λ m. sets c.args.to.now c.args.j (read_words (127 * m) c.args.image.now (127 * c.args.b))) c.loop-k.auto.k-end c.loop-k-test.false c.loop-k.invariant
