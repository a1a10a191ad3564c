-- A turn of a report is in `proofs.Timing`.
use Rattle.std.proofs.Common.{◌+◌, ◌*◌, suc, refl, get_or, arith}
use Rattle.semantics.proofs.Theory.TimedWords.{AtMost}
use Rattle.timing.specs.Turns.{timing}
use Rattle.engine.specs.Run.{core_in}
use Rattle.engine.proofs.RunParts.{same_table}
use Rattle.engine.proofs.Timing.{first_within, rise_low, first_most, turn_kept, turn_clocked, turn_timed}
use Rattle.engine.proofs.run.Run.turn.Goals as goal

pub time_first-t-requires : goal.time_first-t-requires
time_first-t-requires c =
    let a = c.args in
    let q = c.requires in
    let n = c.records in (
      λ j. omega (arith, q.7 j, q.3, c.ranges.to.fits),
      omega (arith, q.8, q.3, c.ranges.to.fits),
      λ b. omega (arith, q.6, first_within a.tape.now (core_in a.self.now) a.answers.now a.i a.to q.0 (omega (arith, q.2, q.4)) q.3 q.5 (core_in n.new.self) n.new.answers n.ensures.runs (get_or n.new.answers (2 * a.i) 0) refl c.bottom_of-p.result c.bottom_of-p.ensures b),
      λ z. omega (arith, rise_low a.tape.now (core_in a.self.now) a.answers.now a.i a.to q.0 (omega (arith, q.2, q.4)) q.3 q.5 (core_in n.new.self) n.new.answers n.ensures.runs (get_or n.new.answers (2 * a.i) 0) refl a.clocks.now c.bottom_of-p.result c.rise-r.result c.bottom_of-p.ensures c.rise-r.ensures q.7 z, q.3, c.ranges.to.fits),
    )

pub time_data-work-requires : goal.time_data-work-requires
time_data-work-requires c =
    let a = c.args in
    let q = c.requires in
    let n = c.records in
    let t = c.time_first-t in
    let most : AtMost (suc a.i) (timing t.new.clocks t.result.work t.result.span) = first_most a.tape.now (core_in a.self.now) a.answers.now a.i a.to q.0 (omega (arith, q.2, q.4)) q.3 q.5 (core_in n.new.self) n.new.answers n.ensures.runs (get_or n.new.answers (2 * a.i) 0) refl a.clocks.now c.bottom_of-p.result c.rise-r.result c.bottom_of-p.ensures c.rise-r.ensures (get_or n.new.answers (2 * a.i + 1) 0) refl t.new.clocks a.t.work a.t.span t.result.work t.result.span t.ensures (record { clocks = q.7; work = q.8; span = q.9 }) in
    let table = same_table q.0 (turn_kept a.tape.now (core_in a.self.now) a.answers.now a.i a.to q.0 (omega (arith, q.2, q.4)) q.3 q.5 (core_in n.new.self) n.new.answers n.ensures.runs) n.ensures.same in (
      omega (arith, q.3),
      omega (arith, q.4),
      omega (arith, q.2, q.4, n.auto.answers),
      λ j. omega (arith, most.clocks j, q.3, c.ranges.to.fits),
      omega (arith, most.work, q.3, c.ranges.to.fits),
      turn_clocked a.tape.now (core_in a.self.now) a.answers.now a.i a.to q.0 (omega (arith, q.2, q.4)) q.3 q.5 (core_in n.new.self) n.new.answers n.ensures.runs t.new.clocks (omega (arith, t.auto.clocks, q.6, table)),
    )

pub returns-clause-times : goal.returns-clause-times
returns-clause-times c =
    let a = c.args in
    let q = c.requires in
    let n = c.records in
    let t = c.time_first-t in
    turn_timed a.tape.now (core_in a.self.now) a.answers.now a.i a.to q.0 (omega (arith, q.2, q.4)) q.3 q.5 (core_in n.new.self) n.new.answers n.ensures.runs (get_or n.new.answers (2 * a.i) 0) refl a.clocks.now c.bottom_of-p.result c.rise-r.result c.bottom_of-p.ensures c.rise-r.ensures (get_or n.new.answers (2 * a.i + 1) 0) refl t.new.clocks a.t.work a.t.span t.result.work t.result.span t.ensures c.time_data-work.new.clocks c.time_data-work.result c.time_data-work.ensures
