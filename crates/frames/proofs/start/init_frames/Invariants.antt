-- What is left gives the whole start.
use Rattle.std.proofs.Common.{◌≡◌, ◌-◌}
use Rattle.frames.specs.Frames.{init_places, init_frames}
use Rattle.frames.proofs.start.init_frames.Given as goal

abbrev pub invariant-loop-p : goal.invariant-loop-p
invariant-loop-p l = init_places (l.places - l.p) l.frames l.p ≡ init_frames l.fn.frames
