-- After k turns the first k bytes are zero.
use Rattle.std.proofs.Common.{replicate, ◌≡◌}
use Rattle.std.proofs.lemmas.List.Edits.{sets}
use Rattle.image.proofs.bytes.put_zeros.Given as goal

abbrev pub invariant-loop-k : goal.invariant-loop-k
invariant-loop-k l = l.bytes ≡ sets l.fn.bytes l.at (replicate l.k 0)
