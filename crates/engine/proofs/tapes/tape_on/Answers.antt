use mathlib.Core.Path.{sym, ap, ◌∙◌, subst}
use borrow.Author.Tests.{eqb-true}
use Rattle.soundness.specs.Layout.{two_words}
use Rattle.engine.specs.Promises.{result_number, IsCheck}
use Rattle.engine.proofs.Numbered.{handed}
use Rattle.engine.proofs.Taping.{found_sound, fit_answers, wrong_tape, unsound_tape, tape_empty, tape_done_lem}
use Rattle.engine.proofs.tapes.tape_on.Goals as goal

pub returns-then-unfit_tape-clause-tapes : goal.returns-then-unfit_tape-clause-tapes
returns-then-unfit_tape-clause-tapes c =
    let s = c.args.state.now in
    wrong_tape s.numbers.now s.deques.now s.frames.now _ _ _ _ _ c.unfit_tape.ensures c.if-unfit_tape.true

pub returns-in_err-check_state-clause-tapes : goal.returns-in_err-check_state-clause-tapes
returns-in_err-check_state-clause-tapes c =
    let s = c.args.state.now in
    let k = c.check_state in
    let h = c.from_residual in
    unsound_tape s.numbers.now s.deques.now s.frames.now _ _ _ _ _ c.unfit_tape.ensures c.if-unfit_tape.false k.result k.new.work (subst (λ t. IsCheck two_words t c.args.pool.now c.args.work.now k.new.work k.result) c.shared.ensures.same k.ensures) _ c.in_err-check_state.was _
    (ap result_number (handed h.result _ h.ensures))

pub returns-then-is_empty-clause-tapes : goal.returns-then-is_empty-clause-tapes
returns-then-is_empty-clause-tapes c =
    let s = c.args.state.now in
    let k = c.check_state in
    tape_empty s.numbers.now s.deques.now s.frames.now _ _ _ _ _ c.unfit_tape.ensures c.if-unfit_tape.false k.result k.new.work (subst (λ t. IsCheck two_words t c.args.pool.now c.args.work.now k.new.work k.result) c.shared.ensures.same k.ensures) _ c.in_ok-check_state.was (eqb-true _ 0 (sym c.is_empty.ensures ∙ c.if-is_empty.true)) c.shared.ensures.fit

pub returns-in_err-free_count-clause-tapes : goal.returns-in_err-free_count-clause-tapes
returns-in_err-free_count-clause-tapes c =
    let s = c.args.state.now in
    let k = c.check_state-2 in
    let h = c.from_residual-in_err-free_count in
    unsound_tape s.numbers.now s.deques.now s.frames.now _ _ _ _ _ c.unfit_tape.ensures c.if-unfit_tape.false k.result k.new.work (subst (λ t. IsCheck two_words t c.args.pool.now c.args.work.now k.new.work k.result) c.shared-2.ensures.same k.ensures) _ c.in_err-free_count.was _
    (ap result_number (handed h.result _ h.ensures))

pub run_tape-requires : goal.run_tape-requires
run_tape-requires c =
    let s = c.args.state.now in
    let k = c.check_state-2 in
    (found_sound s.numbers.now s.deques.now s.frames.now _ _ _ _ _ c.shared-2.ensures.fit (subst (λ t. IsCheck two_words t c.args.pool.now c.args.work.now k.new.work k.result) c.shared-2.ensures.same k.ensures) c.in_ok-free_count.was, fit_answers _ _ _ c.unfit_tape.ensures c.if-unfit_tape.false)

pub returns-clause-tapes : goal.returns-clause-tapes
returns-clause-tapes c =
    let s = c.args.state.now in
    let k = c.check_state-2 in
    tape_done_lem s.numbers.now s.deques.now s.frames.now _ _ _ _ _ c.unfit_tape.ensures c.if-unfit_tape.false k.result k.new.work (subst (λ t. IsCheck two_words t c.args.pool.now c.args.work.now k.new.work k.result) c.shared-2.ensures.same k.ensures) _ _ _ _ _ _ c.in_ok-free_count.was c.run_tape.ensures
