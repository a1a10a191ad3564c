-- After k turns the words of the first k blocks are read.
use Rattle.std.proofs.Common.{◌*◌, ◌≡◌}
use Rattle.std.proofs.lemmas.List.Edits.{sets}
use Rattle.image.specs.Inner.{read_words}
use Rattle.image.proofs.read.read_blocks.Given as goal

abbrev pub invariant-loop-k : goal.invariant-loop-k
invariant-loop-k l = (l.to ≡ sets l.fn.to l.j (read_words (127 * l.k) l.image (127 * l.b)))
