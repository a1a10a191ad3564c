-- How it begins, and a turn.
use Rattle.std.proofs.Common.{◌∙◌, refl, add-one}
use Rattle.frame_check.specs.Algorithm.{deque_sound, tally_deques}
use Rattle.frame_check.proofs.Laws.{all_turn}
use Rattle.frame_check.proofs.deques.tally_deques.Goals as goal

pub loop-w-init : goal.loop-w-init
unfolding tally_deques
loop-w-init c = (refl, refl)

pub loop-w-preserved : goal.loop-w-preserved
unfolding tally_deques
loop-w-preserved c = (
  c.tally_deque-sound.ensures.tallied ∙ rw (add-one, c.loop-w.invariant.0),
  all_turn _ (deque_sound c.args.deques.now c.args.frames.now) c.loop-w.invariant.1 c.tally_deque-sound.ensures.sound,
)
