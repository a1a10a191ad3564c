-- What is counted and found above place k.
use Rattle.std.proofs.Common.{◌≡◌}
use Rattle.words.specs.Basics.{all}
use Rattle.frames.specs.Deques.{place}
use Rattle.frame_check.specs.Algorithm.{deque_step, on_deque, tally}
use Rattle.frame_check.proofs.deques.tally_deque.Given as goal

abbrev pub invariant-loop-k : goal.invariant-loop-k
invariant-loop-k l =
    (l.tallies ≡ tally (λ i. deque_step) l.k (place l.deques l.w) l.initial.tallies) × (l.sound ≡ all l.k (on_deque l.deques l.frames l.w))
