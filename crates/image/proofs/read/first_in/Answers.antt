-- The first word of the first block.
use Rattle.std.proofs.Common.{◌∙◌}
use Rattle.image.proofs.Ends.{first_at_lem}
use Rattle.image.proofs.read.first_in.Goals as goal

pub returns : goal.returns
returns c = c.word_at.ensures ∙ first_at_lem c.args.image.now c.requires
