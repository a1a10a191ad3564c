-- The loop of turns is in `proofs.Timing`.
use Rattle.std.proofs.Common.{arith}
use Rattle.semantics.specs.Entries.{records_result}
use Rattle.timing.specs.Turns.{timing}
use Rattle.engine.specs.Run.{core_in}
use Rattle.engine.proofs.RunParts.{same_after, same_nodes, same_table}
use Rattle.engine.proofs.Timing.{going_on, going_ends}
use Rattle.engine.proofs.run.Run.turns.Goals as goal

pub turn-t-requires : goal.turn-t-requires
turn-t-requires c =
    let a = c.args in
    let l = c.loop-i in
    let g = l.invariant.going in
    let e = c.turn_end-to in (
      g.kept,
      same_nodes c.requires.1 l.invariant.parts,
      omega (arith, c.requires.2, l.auto.answers),
      omega (arith, e.ensures.0),
      omega (arith, e.ensures.1, c.record_count-records.ensures),
      e.ensures.2,
      omega (arith, c.requires.3, l.auto.clocks, same_table c.requires.0 g.kept l.invariant.parts),
      g.most.clocks,
      g.most.work,
      g.most.span,
    )

pub loop-i-preserved : goal.loop-i-preserved
loop-i-preserved c =
    let a = c.args in
    let l = c.loop-i in
    let e = c.turn_end-to in
    let o = c.turn-t in
    record {
      parts = same_after l.invariant.parts o.ensures.same;
      going = going_on a.tape.now c.record_count-records.result (records_result (core_in a.self.now) a.answers.now) (timing a.clocks.now 0 0) (core_in l.self) l.answers (timing l.clocks l.t.work l.t.span) l.i (core_in o.new.self) o.new.answers (timing o.new.clocks o.result.work o.result.span) e.result l.invariant.going (omega (arith, e.ensures.0)) e.ensures.1 o.ensures.runs o.ensures.times;
    }

pub returns-clause-runs : goal.returns-clause-runs
returns-clause-runs c =
    let a = c.args in
    let l = c.loop-i in
    (going_ends a.tape.now c.record_count-records.result (records_result (core_in a.self.now) a.answers.now) (timing a.clocks.now 0 0) (core_in l.self) l.answers (timing l.clocks l.t.work l.t.span) l.i l.invariant.going c.loop-i-test.false).0

pub returns-clause-times : goal.returns-clause-times
returns-clause-times c =
    let a = c.args in
    let l = c.loop-i in
    (going_ends a.tape.now c.record_count-records.result (records_result (core_in a.self.now) a.answers.now) (timing a.clocks.now 0 0) (core_in l.self) l.answers (timing l.clocks l.t.work l.t.span) l.i l.invariant.going c.loop-i-test.false).1
