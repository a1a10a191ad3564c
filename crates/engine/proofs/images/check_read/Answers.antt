use mathlib.Core.Path.{◌∙◌, ap, sym, subst, refl}
use Rattle.soundness.specs.Layout.{two_words}
use Rattle.engine.specs.Promises.{result_number, IsCheck}
use Rattle.engine.proofs.Numbered.{check_some, check_none}
use Rattle.engine.proofs.SaveLoad.{reread_refused, reread_sound}
use Rattle.engine.proofs.images.check_read.Goals as goal

pub returns-then-is_err-clause-checks : goal.returns-then-is_err-clause-checks
returns-then-is_err-clause-checks c =
    let s = c.args.state.now in
    let k = c.check_state in
    let u = c.refuse_read.ensures in
    reread_refused s.numbers.now s.deques.now s.frames.now c.args.pool.now c.args.work.now c.requires k.result k.new.work (subst (λ t. IsCheck two_words t c.args.pool.now c.args.work.now k.new.work k.result) c.shared.ensures.same k.ensures) _ refl
    (check_some _ (sym c.is_err.ensures.value ∙ c.if-is_err.true)) _ _ _ (ap result_number u.0, u.1, u.2)

pub returns-clause-checks : goal.returns-clause-checks
returns-clause-checks c =
    let s = c.args.state.now in
    let k = c.check_state in
    reread_sound s.numbers.now s.deques.now s.frames.now c.args.pool.now c.args.work.now c.requires k.result k.new.work (subst (λ t. IsCheck two_words t c.args.pool.now c.args.work.now k.new.work k.result) c.shared.ensures.same k.ensures) _ refl
    (check_none _ (sym c.is_err.ensures.value ∙ c.if-is_err.false))
