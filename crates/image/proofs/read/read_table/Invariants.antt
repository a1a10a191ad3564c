-- After p turns the first p records are read.
use Rattle.std.proofs.Common.{◌≡◌}
use Rattle.soundness.specs.Layout.{two_words}
use Rattle.image.proofs.Table.{table_so_far}
use Rattle.image.specs.Image.{frames_in}
use Rattle.image.proofs.read.read_table.Given as goal

abbrev pub invariant-loop-p : goal.invariant-loop-p
invariant-loop-p l = (l.frames ≡ table_so_far (frames_in two_words l.image) l.fn.frames l.p)
