use mathlib.Core.Path.{ap, sym, refl}
use Rattle.soundness.specs.Layout.{two_words}
use Rattle.image.proofs.Theory.Version.{two_version}
use Rattle.image.proofs.Theory.Promises.{whole_block}
use Rattle.engine.proofs.Numbered.{image_number, image_handed, test_handed, test_passed, some_handed}
use Rattle.engine.proofs.SaveLoad.{image_refused, image_good, load_short, read_on_lem}
use Rattle.engine.proofs.images.read_image.Goals as goal

pub returns-in_err-check_image-clause-reads : goal.returns-in_err-check_image-clause-reads
returns-in_err-check_image-clause-reads c =
    let s = c.args.state.now in
    let h = c.from_residual in
    image_refused s.numbers.now s.deques.now s.frames.now c.args.pool.now c.args.work.now _ _ c.check_image.ensures _ (image_handed h.result _ _ c.in_err-check_image.was h.ensures) (some_handed h.result _ h.ensures)

pub nodes_in-requires : goal.nodes_in-requires
nodes_in-requires c =
    let s = c.args.state.now in
    whole_block two_words two_version _ (image_good s.numbers.now s.deques.now s.frames.now c.args.pool.now c.args.work.now _ _ c.check_image.ensures 0 (sym (ap image_number c.in_ok-check_image.was)) refl)

pub returns-in_err-work_fits-clause-reads : goal.returns-in_err-work_fits-clause-reads
returns-in_err-work_fits-clause-reads c =
    let s = c.args.state.now in
    let h = c.from_residual-in_err-work_fits in
    let good = image_good s.numbers.now s.deques.now s.frames.now c.args.pool.now c.args.work.now _ _ c.check_image.ensures 0 (sym (ap image_number c.in_ok-check_image.was)) refl in
    load_short s.numbers.now s.deques.now s.frames.now c.args.pool.now c.args.work.now _ good _ c.nodes_in.ensures _ (test_handed h.result _ _ _ _ c.work_fits.ensures c.in_err-work_fits.was h.ensures) (some_handed h.result _ h.ensures)

pub returns-clause-reads : goal.returns-clause-reads
returns-clause-reads c =
    let s = c.args.state.now in
    let good = image_good s.numbers.now s.deques.now s.frames.now c.args.pool.now c.args.work.now _ _ c.check_image.ensures 0 (sym (ap image_number c.in_ok-check_image.was)) refl in
    read_on_lem s.numbers.now s.deques.now s.frames.now c.args.pool.now c.args.work.now _ good _ c.nodes_in.ensures 0 (test_passed _ _ _ _ c.work_fits.ensures c.in_ok-work_fits.was) refl _ _ _ _ _ _ c.read_good.ensures.reads
