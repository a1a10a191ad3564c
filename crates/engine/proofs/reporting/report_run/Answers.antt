-- The tape and the report after the start are in `proofs.Reports`.
use Rattle.std.specs.Prelude.{Ok}
use Rattle.std.specs.Result.{result_unwrap_or}
use mathlib.Core.Path.{◌≡◌, ◌∙◌, ap, sym, subst}
use Prim.Native.Nat.{ℕ}
use Rattle.soundness.specs.Soundness.{Checked}
use Rattle.soundness.specs.Layout.{two_words}
use Rattle.engine.specs.Promises.{IsCheck}
use Rattle.engine.proofs.Reports.{report_kept, report_room, clocks_zero, report_done_lem}
use Rattle.engine.proofs.reporting.report_run.Goals as goal

-- the number that a check that refuses nothing has found
found_ok : (k : Checked) (n u : ℕ) → k ≡ Ok n → u ≡ result_unwrap_or k 0 → k ≡ Ok u
found_ok k n u p e = p ∙ ap Ok (sym (e ∙ ap (λ (r : Checked). result_unwrap_or r 0) p))

pub run_timed-t-requires : goal.run_timed-t-requires
run_timed-t-requires c =
    let a = c.args in
    let s = a.state.now in
    let q = c.requires in
    let k = c.check_state in
    let e = subst (λ t. IsCheck two_words t a.pool.now a.work.now k.new.work k.result) c.shared.ensures.same k.ensures in
    let u = c.unwrap_or-free_count in (
      report_kept s.numbers.now s.deques.now s.frames.now a.pool.now a.work.now a.tape.now a.answers.now a.clocks.now a.report.now c.shared.ensures.fit q.0 q.1 k.result k.new.work e u.result (found_ok k.result _ u.result (e.1 ∙ q.0) u.ensures),
      report_room s.numbers.now s.deques.now s.frames.now a.pool.now a.work.now a.tape.now a.answers.now a.clocks.now a.report.now c.shared.ensures.fit q.0 q.1 k.result k.new.work e u.result (found_ok k.result _ u.result (e.1 ∙ q.0) u.ensures),
      c.clear_clocks.auto.clocks ∙ q.2,
      clocks_zero s.numbers.now s.deques.now s.frames.now a.pool.now a.work.now a.tape.now a.answers.now a.clocks.now a.report.now c.shared.ensures.fit q.0 q.1 k.result k.new.work e u.result (found_ok k.result _ u.result (e.1 ∙ q.0) u.ensures) c.clear_clocks.new.clocks c.clear_clocks.ensures,
    )

pub returns-clause-reports : goal.returns-clause-reports
returns-clause-reports c =
    let a = c.args in
    let s = a.state.now in
    let q = c.requires in
    let k = c.check_state in
    let e = subst (λ t. IsCheck two_words t a.pool.now a.work.now k.new.work k.result) c.shared.ensures.same k.ensures in
    let u = c.unwrap_or-free_count in
    let o = c.run_timed-t in
    report_done_lem s.numbers.now s.deques.now s.frames.now a.pool.now a.work.now a.tape.now a.answers.now a.clocks.now a.report.now c.shared.ensures.fit q.0 q.1 k.result k.new.work e u.result (found_ok k.result _ u.result (e.1 ∙ q.0) u.ensures) c.clear_clocks.new.clocks c.clear_clocks.ensures
    o.result.work o.result.span o.new.numbers o.new.deques o.new.frames o.new.pool o.new.answers o.new.clocks c.put_report.new.report c.put_report.result o.ensures.runs o.ensures.times c.put_report.ensures
