-- How it begins, and a turn.
use Rattle.std.proofs.Common.{◌∙◌, refl}
use Rattle.frames.specs.Deques.{place}
use Rattle.frame_check.specs.Algorithm.{deque_step, on_deque, tally}
use Rattle.frame_check.proofs.Laws.{all_turn, tally_turn}
use Rattle.frame_check.proofs.deques.tally_deque.Goals as goal

pub loop-k-init : goal.loop-k-init
unfolding tally
loop-k-init c = (refl, refl)

pub loop-k-preserved : goal.loop-k-preserved
loop-k-preserved c = (
  c.bump.ensures ∙ tally_turn (λ i. deque_step) _ (place c.args.deques.now c.args.w) _ c.loop-k.invariant.0 c.place_at.ensures refl,
  all_turn _ (on_deque c.args.deques.now c.args.frames.now c.args.w) c.loop-k.invariant.1 c.on_deque-sound.ensures,
)
