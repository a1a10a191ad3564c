-- No record before `to` ends the turn.
use Rattle.std.proofs.Common.{ℕ, ◌≤◌, ◌<◌}
use Rattle.timing.specs.Turns.{kind_at}
use Rattle.timing.proofs.turns.turn_end.Given as goal

abbrev pub invariant-loop-to : goal.invariant-loop-to
invariant-loop-to l = (j : ℕ) → l.from ≤ j → j < l.to → 5 ≤ kind_at l.tape j
