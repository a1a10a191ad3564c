-- A turn; at the end all deques are passed.
use Rattle.words.specs.Basics.{all}
use Rattle.frame_check.specs.Algorithm.{deque_fits}
use Rattle.frame_check.proofs.Laws.{at_end, all_turn}
use Rattle.frame_check.proofs.deques.deques_fit.Goals as goal

pub loop-w-preserved : goal.loop-w-preserved
loop-w-preserved c = all_turn _ (deque_fits c.args.workers c.args.places c.args.deques.now) c.loop-w.invariant c.deque_fits-sound.ensures

pub returns : goal.returns
returns c = at_end (λ k. all k (deque_fits c.args.workers c.args.places c.args.deques.now)) c.loop-w.auto.w-end c.loop-w-test.false c.loop-w.invariant
