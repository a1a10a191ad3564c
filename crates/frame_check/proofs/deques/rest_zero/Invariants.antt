-- The answer for the places passed, of the first n of which nothing is asked.
use Rattle.std.proofs.Common.{◌≡◌}
use Rattle.words.specs.Basics.{all}
use Rattle.frame_check.specs.Algorithm.{zero_past}
use Rattle.frame_check.proofs.deques.rest_zero.Given as goal

abbrev pub invariant-loop-k : goal.invariant-loop-k
invariant-loop-k l = l.sound ≡ all l.k (zero_past l.deques l.w l.n)
