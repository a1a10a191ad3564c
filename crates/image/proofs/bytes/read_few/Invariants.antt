-- After k turns the first k words are read.
use Rattle.std.proofs.Common.{◌≡◌}
use Rattle.std.proofs.lemmas.List.Edits.{sets}
use Rattle.image.specs.Inner.{words_at}
use Rattle.image.proofs.bytes.read_few.Given as goal

abbrev pub invariant-loop-k : goal.invariant-loop-k
invariant-loop-k l = (l.to ≡ sets l.fn.to l.j (words_at l.k l.bytes l.at))
