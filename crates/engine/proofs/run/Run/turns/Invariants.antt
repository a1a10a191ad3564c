-- The turns so far go on as the whole tape does (`Going`); the measure is how many records are left.
use Rattle.std.proofs.Common.{◌-◌}
use Rattle.semantics.specs.Entries.{records_result}
use Rattle.timing.specs.Turns.{timing}
use Rattle.engine.specs.Run.{core_in, SameRun}
use Rattle.engine.proofs.Timing.{Going}
use Rattle.engine.proofs.run.Run.turns.Given as goal

abbrev pub invariant-loop-i : goal.invariant-loop-i
invariant-loop-i l = record {
  parts : SameRun l.fn.self l.self;
  going : Going l.tape l.records (records_result (core_in l.fn.self) l.fn.answers) (timing l.fn.clocks 0 0) (core_in l.self) l.answers (timing l.clocks l.t.work l.t.span) l.i;
}

abbrev pub decreases-loop-i : goal.decreases-loop-i
decreases-loop-i l = l.records - l.i
