-- To time the records that are left from here gives what it gives from the start.
use Rattle.timing.proofs.Laws.{Turned}
use Rattle.timing.proofs.turns.time_data.Given as goal

abbrev pub invariant-loop-i : goal.invariant-loop-i
invariant-loop-i l = Turned l.deques l.tape l.answers l.fn.clocks l.from l.to l.work l.clocks l.total l.i
