-- What was read is within the buffer; the measure is the room left.
use Rattle.std.proofs.Common.{◌-◌, ◌≤◌, length}
use Rattle.splitrun.proofs.read_full.Given as goal

abbrev pub invariant-loop-got : goal.invariant-loop-got
invariant-loop-got g l = l.got ≤ length l.buffer

abbrev pub decreases-loop-got : goal.decreases-loop-got
decreases-loop-got g l = length l.initial.buffer - l.got
