-- The passes, one after the other.
use Rattle.std.proofs.Common.{◌∙◌}
use Rattle.frame_check.proofs.Laws.{unfit, fit_sizes, fit}
use Rattle.frame_check.proofs.check_frames.Goals as goal

pub returns-then-not-deques_fit : goal.returns-then-not-deques_fit
returns-then-not-deques_fit c = unfit c.args.workers c.args.first c.args.deques.now c.args.frames.now c.requires c.deques_fit.ensures c.if-not-deques_fit.true

pub tally_deques-placed-requires : goal.tally_deques-placed-requires
tally_deques-placed-requires c = fit_sizes c.args.workers c.args.first c.args.deques.now c.args.frames.now c.requires c.deques_fit.ensures c.if-not-deques_fit.false

pub returns : goal.returns
returns c =
    c.then_some.ensures ∙ fit c.args.workers c.args.first c.args.deques.now c.args.frames.now c.requires c.deques_fit.ensures c.if-not-deques_fit.false c.tally_children-census.ensures.tallied c.tally_children-census.ensures.counted
    c.tally_deques-placed.ensures.tallied c.tally_deques-placed.ensures.sound (rw (← c.saturating_sub-free.ensures) c.follow_free-chained.ensures) c.places_sound-sound.ensures
