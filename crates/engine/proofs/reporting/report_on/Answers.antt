-- The ways out are in `proofs.Reports`.
use Rattle.std.proofs.Common.{◌≡◌, ◌*◌, ℕ, subst, sym, length}
use mathlib.Core.Path.{◌∙◌}
use Rattle.engine.proofs.Reports.{report_refused_lem, start_passes, same_table, started_sound, tape_fits, report_started_lem}
use Rattle.engine.proofs.reporting.report_on.Goals as goal

pub returns-then-is_err-clause-reports : goal.returns-then-is_err-clause-reports
returns-then-is_err-clause-reports c =
    let a = c.args in
    let s = a.state.now in
    let r = c.may_report-refused in
    report_refused_lem a.workers a.values.now s.numbers.now s.deques.now s.frames.now a.pool.now a.work.now a.tape.now a.answers.now a.clocks.now a.report.now r.result r.ensures (sym c.is_err.ensures.value ∙ c.if-is_err.true) _ _ _ c.clear.ensures.zero

pub report_run-requires : goal.report_run-requires
report_run-requires c =
    let a = c.args in
    let s = a.state.now in
    let r = c.may_report-refused in
    let z = sym c.is_err.ensures.value ∙ c.if-is_err.false in
    let o = c.start_on.ensures.starts in (
      started_sound a.workers a.values.now s.numbers.now s.deques.now s.frames.now a.pool.now a.work.now a.tape.now a.answers.now a.clocks.now a.report.now r.result r.ensures z _ _ _ _ c.start_on.result o,
      tape_fits a.workers a.values.now s.numbers.now s.deques.now s.frames.now a.pool.now a.work.now a.tape.now a.answers.now a.clocks.now a.report.now r.result r.ensures z _ _ _ _ c.start_on.result o,
      subst (λ (k : ℕ). length a.clocks.now ≡ 2 * k) (sym (same_table a.workers a.values.now s.numbers.now s.deques.now s.frames.now a.pool.now a.work.now a.tape.now a.answers.now a.clocks.now a.report.now r.result r.ensures z _ _ _ _ c.start_on.result o)) c.requires.0,
      c.requires.1,
    )

pub returns-clause-reports : goal.returns-clause-reports
returns-clause-reports c =
    let a = c.args in
    let s = a.state.now in
    let r = c.may_report-refused in
    report_started_lem a.workers a.values.now s.numbers.now s.deques.now s.frames.now a.pool.now a.work.now a.tape.now a.answers.now a.clocks.now a.report.now r.result r.ensures (sym c.is_err.ensures.value ∙ c.if-is_err.false) _ _ _ _ c.start_on.result c.start_on.ensures.starts _ _ _ _ _ _ _ _ _ c.report_run.ensures.reports
