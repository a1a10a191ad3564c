-- A turn and the end of the loop are in `proofs.RecordLoop`.
use Rattle.std.proofs.Common.{◌*◌, refl, sym, ◌∙◌, arith}
use Rattle.semantics.specs.Entries.{records_result}
use Rattle.semantics.proofs.Theory.Ready.{kept_ready}
use Rattle.engine.specs.Run.{core_in, stepped}
use Rattle.engine.proofs.RunParts.{same_after, same_nodes}
use Rattle.engine.proofs.RecordLoop.{finish, turn_kept, turn}
use Rattle.engine.proofs.run.Run.records.Goals as goal

pub record-requires : goal.record-requires
record-requires c = (record { core = kept_ready (core_in c.loop-i.self) c.loop-i.invariant.kept; nodes = same_nodes c.requires.1 c.loop-i.invariant.parts }, omega (arith, c.loop-i-test.true, c.requires.4))

pub loop-i-preserved : goal.loop-i-preserved
loop-i-preserved c =
    record {
      parts = same_after c.loop-i.invariant.parts c.record.ensures.same;
      kept = turn_kept c.args.tape.now c.args.to (core_in c.loop-i.self) c.loop-i.answers _ c.loop-i.i (stepped c.record.new.self c.record.result) c.loop-i-test.true c.record.ensures.steps c.answer_words-first.result c.answer_words-first.ensures refl c.loop-i.invariant.kept;
      goes = turn c.args.tape.now c.args.to (core_in c.loop-i.self) c.loop-i.answers _ c.loop-i.i (stepped c.record.new.self c.record.result) c.loop-i-test.true c.record.ensures.steps c.answer_words-first.result c.answer_words-first.ensures refl ∙ c.loop-i.invariant.goes;
    }

pub returns-clause-runs : goal.returns-clause-runs
returns-clause-runs c =
    sym (finish c.args.tape.now c.args.to (records_result (core_in c.loop-i.self) c.loop-i.answers) c.loop-i.i (2 * c.loop-i.i) (8 * c.loop-i.i) c.loop-i-test.false) ∙ c.loop-i.invariant.goes
