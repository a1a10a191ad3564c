-- A record that is a step, one that is none, and the end (`proofs.Laws`).
use Rattle.timing.proofs.Laws.{turn_ticks, turn_skips, turn_ends}
use Rattle.timing.proofs.turns.time_data.Goals as goal
use Rattle.timing.proofs.turns.time_data.Goals.{then-answers-i-ge100, else-answers-i-ge100}

pub loop-i-preserved : goal.loop-i-preserved
loop-i-preserved c =
    let a = c.args in
    let l = c.loop-i in
    elim c.if-answers-i-ge100.branch [
      | then-answers-i-ge100 w ↦ turn_ticks a.deques.now a.tape.now a.answers.now a.clocks.now a.from a.to a.work l.clocks l.total l.i l.invariant w.bottom_in.result w.tick.new.clocks _ _ c.loop-i-test.true w.if-answers-i-ge100.true w.bottom_in.ensures w.tick.ensures w.clocks-is w.total-is
      | else-answers-i-ge100 w ↦ turn_skips a.deques.now a.tape.now a.answers.now a.clocks.now a.from a.to a.work l.clocks l.total l.i l.invariant _ _ c.loop-i-test.true w.if-answers-i-ge100.false w.clocks-is w.total-is
    ]

pub returns : goal.returns
returns c =
    let a = c.args in
    let l = c.loop-i in
    turn_ends a.deques.now a.tape.now a.answers.now a.clocks.now a.from a.to a.work l.clocks l.total l.i l.invariant c.loop-i-test.false
