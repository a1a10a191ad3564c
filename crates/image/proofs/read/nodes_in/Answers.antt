-- The third word of the first block.
use Rattle.std.proofs.Common.{◌∙◌}
use Rattle.image.proofs.Ends.{nodes_at_lem}
use Rattle.image.proofs.read.nodes_in.Goals as goal

pub returns : goal.returns
returns c = c.word_at.ensures ∙ nodes_at_lem c.args.image.now c.requires
