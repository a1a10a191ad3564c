use Rattle.std.proofs.Common.{rules}
use mathlib.Core.Path.{refl}
use Rattle.engine.proofs.Fitting.{refused_length, no_array, whole_array, start_unfit, start_fit}
use Rattle.engine.proofs.entries.start.Goals as goal

pub returns-in_err-numbers : goal.returns-in_err-numbers
returns-in_err-numbers c =
    let a = c.as_mut_array in
    let o = c.ok_or.ensures.value in
    let w = c.in_err-numbers.was in
    start_unfit _ _ _ (λ ln ld. no_array _ _ o _ w (a.ensures.variant.1 ln)) _ refl _ (refused_length _ _ o _ w _ c.from_residual.ensures) _ _ _

pub returns-in_err-deques : goal.returns-in_err-deques
returns-in_err-deques c =
    let n = whole_array _ _ _ _ _ c.ok_or.ensures.value _ c.in_ok-numbers.was c.as_mut_array.ensures.cases in
    let a = c.as_mut_array-2 in
    let o = c.ok_or-2.ensures.value in
    let w = c.in_err-deques.was in
    start_unfit _ _ _ (λ ln ld. no_array _ _ o _ w (a.ensures.variant.1 ld)) _ n.same _ (refused_length _ _ o _ w _ c.from_residual-in_err-deques.ensures) _ _ _

pub returns : goal.returns
returns c =
    let n = whole_array _ _ _ _ _ c.ok_or.ensures.value _ c.in_ok-numbers.was c.as_mut_array.ensures.cases in
    let d = whole_array _ _ _ _ _ c.ok_or-2.ensures.value _ c.in_ok-deques.was c.as_mut_array-2.ensures.cases in
    start_fit _ _ _ n.long d.long _ _ _ _ _ _ _ _ _ _ _ c.start_on.ensures.starts (search rules) (search rules) (search rules)
