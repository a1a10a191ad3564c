-- The loop keeps the answer for the words that are left.
use Rattle.std.proofs.Common.{drop, take, ◌*◌, ◌+◌, ◌-◌, ◌≡◌}
use Rattle.image.specs.Image.{all_zero}
use Rattle.image.proofs.accept.zeros.Given as goal

abbrev pub invariant-loop-k : goal.invariant-loop-k
invariant-loop-k l = all_zero (take (4 * (l.fn.n - l.k)) (drop (l.at + 4 * l.k) l.image)) ≡ all_zero (take (4 * l.fn.n) (drop l.at l.image))
