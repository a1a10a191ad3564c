use Rattle.std.proofs.Common.{rules}
use mathlib.Core.Path.{refl}
use Rattle.semantics.specs.Promises.{parts}
use Rattle.engine.proofs.Fitting.{refused_length, no_array, whole_array, report_unfit, words_unfit, words_fit, report_fit}
use Rattle.engine.proofs.entries.report.Goals as goal

pub returns-in_err-numbers : goal.returns-in_err-numbers
returns-in_err-numbers c =
    let a = c.as_mut_array in
    let o = c.ok_or.ensures.value in
    let w = c.in_err-numbers.was in
    report_unfit _ _ _ _ _ _ _ _ _ _ _ (λ ln ld. no_array _ _ o _ w (a.ensures.variant.1 ln)) _ refl _ (refused_length _ _ o _ w _ c.from_residual.ensures)

pub returns-in_err-deques : goal.returns-in_err-deques
returns-in_err-deques c =
    let n = whole_array _ _ _ _ _ c.ok_or.ensures.value _ c.in_ok-numbers.was c.as_mut_array.ensures.cases in
    let a = c.as_mut_array-2 in
    let o = c.ok_or-2.ensures.value in
    let w = c.in_err-deques.was in
    report_unfit _ _ _ _ _ _ _ _ _ _ _ (λ ln ld. no_array _ _ o _ w (a.ensures.variant.1 ld)) _ n.same _ (refused_length _ _ o _ w _ c.from_residual-in_err-deques.ensures)

pub returns-then-not-fit_report : goal.returns-then-not-fit_report
returns-then-not-fit_report c =
    let n = whole_array _ _ _ _ _ c.ok_or.ensures.value _ c.in_ok-numbers.was c.as_mut_array.ensures.cases in
    let d = whole_array _ _ _ _ _ c.ok_or-2.ensures.value _ c.in_ok-deques.was c.as_mut_array-2.ensures.cases in
    words_unfit _ _ _ _ _ _ _ _ _ _ _ n.long d.long _ c.fit_report.ensures c.if-not-fit_report.true _ _ n.same d.same

pub report_on-requires : goal.report_on-requires
report_on-requires c =
    let n = whole_array _ _ _ _ _ c.ok_or.ensures.value _ c.in_ok-numbers.was c.as_mut_array.ensures.cases in
    let d = whole_array _ _ _ _ _ c.ok_or-2.ensures.value _ c.in_ok-deques.was c.as_mut_array-2.ensures.cases in
    words_fit _ _ c.args.frames.now c.args.workers c.args.values.now c.args.pool.now c.args.bytes.now c.args.work.now c.args.answers.now _ _ n.long d.long _ c.fit_report.ensures c.if-not-fit_report.false

pub returns : goal.returns
returns c =
    let n = whole_array _ _ _ _ _ c.ok_or.ensures.value _ c.in_ok-numbers.was c.as_mut_array.ensures.cases in
    let d = whole_array _ _ _ _ _ c.ok_or-2.ensures.value _ c.in_ok-deques.was c.as_mut_array-2.ensures.cases in
    report_fit _ _ _ _ _ _ _ _ _ _ _ n.long d.long _ c.fit_report.ensures c.if-not-fit_report.false _ _ _ _ _ _ (parts _ _ _) _ _ _ _ _ _ c.report_on.ensures.reports (λ i. parts (n.same i) (d.same i) c.args.frames.now) (search rules) (search rules) (search rules)
