use Rattle.std.proofs.Common.{◌∙◌}
use Rattle.image.proofs.Loops.{le_word}
use Rattle.image.proofs.bytes.word_at.Goals as goal
use Rattle.image.specs.Image.{word_at}

pub returns : goal.returns
unfolding word_at
returns c = c.from_le_bytes.ensures ∙ le_word _ _ _ _
