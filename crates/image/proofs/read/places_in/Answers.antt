-- The tenth word of the first block.
use Rattle.std.proofs.Common.{◌∙◌}
use Rattle.image.proofs.Ends.{places_at}
use Rattle.image.proofs.read.places_in.Goals as goal

pub returns : goal.returns
returns c = c.word_at.ensures ∙ places_at c.args.image.now c.requires
