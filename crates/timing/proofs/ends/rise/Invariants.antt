-- From the frame at p on, with the time so far, the ends stop where they stop from the first.
use Rattle.std.proofs.Common.{◌≡◌, ◌-◌}
use Rattle.frames.specs.Frames.{frame_at}
use Rattle.semantics.specs.Timing.{rise}
use Rattle.timing.proofs.ends.rise.Given as goal

abbrev pub invariant-loop : goal.invariant-loop
invariant-loop l = rise (l.end - l.counter) l.frames l.clocks l.p l.clock ≡ rise (frame_at l.frames l.first).depth l.frames l.clocks l.first l.t
