-- The answer for the deques passed.
use Rattle.std.proofs.Common.{◌≡◌}
use Rattle.words.specs.Basics.{all}
use Rattle.frame_check.specs.Algorithm.{deque_fits}
use Rattle.frame_check.proofs.deques.deques_fit.Given as goal

abbrev pub invariant-loop-w : goal.invariant-loop-w
invariant-loop-w l = l.sound ≡ all l.w (deque_fits l.workers l.places l.deques)
