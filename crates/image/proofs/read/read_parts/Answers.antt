-- The table has as many places as the image records.
use Rattle.std.proofs.Common.{arith, ◌∙◌}
use Rattle.soundness.specs.Layout.{two_words}
use Rattle.image.proofs.Theory.Promises.{same_places}
use Rattle.image.proofs.Theory.Version.{two_version}
use Rattle.image.proofs.read.read_parts.Goals as goal

pub read_beside-requires : goal.read_beside-requires
read_beside-requires c = (c.requires.0, omega (arith, c.requires.1.frames, c.requires.1.most, same_places two_words two_version c.args.image.now c.requires.0), c.requires.2)

pub read_table-requires : goal.read_table-requires
read_table-requires c = (c.requires.0, c.requires.1.frames ∙ same_places two_words two_version c.args.image.now c.requires.0)
