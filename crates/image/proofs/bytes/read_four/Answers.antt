-- Four words read, four stores.
use Rattle.image.proofs.Loops.{four_read}
use Rattle.image.proofs.bytes.read_four.Goals as goal

pub returns : goal.returns
returns c = four_read c.args.to.now c.args.bytes.now c.args.at c.args.j _ _ _ _ c.word_at-first.ensures c.word_at-second.ensures c.word_at-third.ensures c.word_at-fourth.ensures
