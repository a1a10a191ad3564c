use mathlib.Core.Path.{ap, sym, refl}
use Rattle.std.proofs.Common.{rules}
use Rattle.engine.proofs.Numbered.{check_number, check_handed, test_handed, test_passed, some_handed}
use Rattle.engine.proofs.SaveLoad.{save_refused_lem, save_short, save_asks, save_done}
use Rattle.engine.proofs.images.save_on.Goals as goal

pub returns-in_err-check_state : goal.returns-in_err-check_state
returns-in_err-check_state c =
    let s = c.args.state in
    let h = c.from_residual in
    save_refused_lem s.numbers.now s.deques.now s.frames.now _ _ _ _ _ c.check_state.ensures _ (check_handed h.result _ _ c.in_err-check_state.was h.ensures) (some_handed h.result _ h.ensures)

pub returns-in_err-target_fits : goal.returns-in_err-target_fits
returns-in_err-target_fits c =
    let s = c.args.state in
    let h = c.from_residual-in_err-target_fits in
    save_short s.numbers.now s.deques.now s.frames.now _ _ _ _ _ c.check_state.ensures 0 (sym (ap check_number c.in_ok-check_state.was)) refl _ (test_handed h.result _ _ _ _ c.target_fits.ensures c.in_err-target_fits.was h.ensures) (some_handed h.result _ h.ensures)

pub write_image-requires : goal.write_image-requires
write_image-requires c =
    let s = c.args.state in
    save_asks s.numbers.now s.deques.now s.frames.now _ _ _ _ _ c.check_state.ensures 0 (sym (ap check_number c.in_ok-check_state.was)) refl 0 (test_passed _ _ _ _ c.target_fits.ensures c.in_ok-target_fits.was) refl (record { numbers = search rules; deques = search rules })

pub returns : goal.returns
returns c =
    let s = c.args.state in
    save_done s.numbers.now s.deques.now s.frames.now _ _ _ _ _ c.check_state.ensures 0 (sym (ap check_number c.in_ok-check_state.was)) refl 0 (test_passed _ _ _ _ c.target_fits.ensures c.in_ok-target_fits.was) refl _ c.write_image.ensures
