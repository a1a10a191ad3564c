use mathlib.Core.Path.{◌∙◌}
use Rattle.semantics.specs.Promises.{parts}
use Rattle.engine.proofs.Fitting.{refused_length, no_array, whole_shared, save_unfit, save_fit}
use Rattle.engine.proofs.entries.save.Goals as goal

pub returns-in_err-numbers : goal.returns-in_err-numbers
returns-in_err-numbers c =
    let a = c.as_array in
    let o = c.ok_or.ensures.value in
    let w = c.in_err-numbers.was in
    save_unfit _ _ _ (λ ln ld. no_array _ _ o _ w (a.ensures.variant.1 ln)) _ (refused_length _ _ o _ w _ c.from_residual.ensures) _ _ _

pub returns-in_err-deques : goal.returns-in_err-deques
returns-in_err-deques c =
    let a = c.as_array-2 in
    let o = c.ok_or-2.ensures.value in
    let w = c.in_err-deques.was in
    save_unfit _ _ _ (λ ln ld. no_array _ _ o _ w (a.ensures.variant.1 ld)) _ (refused_length _ _ o _ w _ c.from_residual-in_err-deques.ensures) _ _ _

pub returns : goal.returns
returns c =
    let n = whole_shared _ _ _ _ _ c.ok_or.ensures.value _ c.in_ok-numbers.was c.as_array.ensures.cases in
    let d = whole_shared _ _ _ _ _ c.ok_or-2.ensures.value _ c.in_ok-deques.was c.as_array-2.ensures.cases in
    save_fit _ _ _ n.long d.long _ _ _ _ _ _ _ c.save_on.ensures (c.new.ensures.same ∙ (λ i. parts (n.same i) (d.same i) c.args.frames.now))
