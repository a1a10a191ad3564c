-- What is counted and found in the deques below worker w.
use Rattle.std.proofs.Common.{◌≡◌}
use Rattle.words.specs.Basics.{all}
use Rattle.frame_check.specs.Algorithm.{deque_sound, tally_deques}
use Rattle.frame_check.proofs.deques.tally_deques.Given as goal

abbrev pub invariant-loop-w : goal.invariant-loop-w
invariant-loop-w l = (l.tallies ≡ tally_deques l.w l.deques l.initial.tallies) × (l.sound ≡ all l.w (deque_sound l.deques l.frames))
