-- To move up what is left from here, with a zero at the end, gives what the whole move gives.
use Rattle.std.proofs.Common.{◌≡◌, ◌-◌}
use Rattle.frames.specs.Deques.{size, set_place, shift_up}
use Rattle.frames.proofs.deques.top_off.Given as goal

abbrev pub invariant-loop-k : goal.invariant-loop-k
invariant-loop-k l = (set_place (shift_up (l.n - l.k) l.deques l.w (l.k - 1)) l.w (l.n - 1) 0 ≡ set_place (shift_up (l.n - 1) l.fn.deques l.w 0) l.w (l.n - 1) 0) × (size l.deques l.w ≡ l.n)
