-- After p turns the first p records are stored, and the sum of the open block is known.
use Rattle.std.proofs.Common.{take, ◌*◌, ◌+◌, ◌≡◌}
use Rattle.frames.specs.Widths.{record_words}
use Rattle.image.specs.Image.{table_words}
use Rattle.image.specs.Inner.{put_words, sum_before}
use Rattle.image.proofs.write.write_table.Given as goal

abbrev pub invariant-loop-p : goal.invariant-loop-p
invariant-loop-p l = (l.target ≡ put_words l.fn.target l.i (table_words (take l.p l.frames))) × (l.sum ≡ sum_before l.target (l.i + record_words * l.p))
