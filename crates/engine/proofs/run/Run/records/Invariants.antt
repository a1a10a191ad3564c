-- What is left of the tape gives from here what the whole gives from the beginning.
use Rattle.std.proofs.Common.{◌≡◌, ◌-◌, ◌*◌}
use Rattle.soundness.specs.Layout.{two_words}
use Rattle.semantics.specs.Entries.{records_result, run_on, records_from}
use Rattle.semantics.specs.Ranges.{Kept}
use Rattle.engine.specs.Run.{core_in, SameRun}
use Rattle.engine.proofs.run.Run.records.Given as goal

abbrev pub invariant-loop-i : goal.invariant-loop-i
invariant-loop-i l = record {
  parts : SameRun l.fn.self l.self;
  kept : Kept two_words (core_in l.self);
  goes : run_on two_words (records_result (core_in l.self) l.answers) (2 * l.i) (records_from (l.to - l.i) l.tape (8 * l.i)) ≡ run_on two_words (records_result (core_in l.fn.self) l.fn.answers) (2 * l.from) (records_from (l.to - l.from) l.tape (8 * l.from));
}
