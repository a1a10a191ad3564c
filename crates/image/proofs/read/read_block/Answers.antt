-- 31 times four words, then the last four.
use Rattle.std.proofs.Common.{◌*◌}
use Rattle.image.proofs.Loops.{last_four}
use Rattle.image.proofs.read.read_block.Goals as goal

pub returns : goal.returns
returns c = last_four c.args.to.now _ _ c.args.image.now (512 * c.args.b) c.args.j c.read_fours.ensures c.read_four.ensures
