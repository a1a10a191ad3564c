-- After k turns the first k words are stored and summed.
use Rattle.std.proofs.Common.{drop, take, ◌≡◌}
use Rattle.std.proofs.lemmas.List.Edits.{sets}
use Rattle.words.specs.Basics.{plus}
use Rattle.image.specs.Image.{bytes_of, check}
use Rattle.image.proofs.bytes.put_run.Given as goal

abbrev pub invariant-loop-k : goal.invariant-loop-k
invariant-loop-k l = (l.bytes ≡ sets l.fn.bytes l.at (bytes_of (take l.k (drop l.j l.from)))) × (l.sum ≡ plus l.fn.before (check (bytes_of (take l.k (drop l.j l.from)))))
