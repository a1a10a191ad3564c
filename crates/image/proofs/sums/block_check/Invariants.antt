-- After j turns the sum of the first j words.
use Rattle.std.proofs.Common.{◌%◌, ◌*◌, ◌+◌, ◌≡◌}
use Rattle.words.specs.Basics.{sum}
use Rattle.image.specs.Image.{word_at}
use Rattle.image.proofs.sums.block_check.Given as goal

abbrev pub invariant-loop-j : goal.invariant-loop-j
invariant-loop-j l = l.sum ≡ sum l.j (λ k. word_at l.image (l.at + 4 * k)) % 4294967296
