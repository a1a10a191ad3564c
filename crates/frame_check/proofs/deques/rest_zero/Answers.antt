-- Of the first n places nothing is asked; at the end all places are passed.
use Rattle.words.specs.Basics.{all}
use Rattle.frame_check.specs.Algorithm.{zero_past}
use Rattle.frame_check.proofs.Laws.{at_end, past_start}
use Rattle.frame_check.proofs.deques.rest_zero.Goals as goal

pub loop-k-init : goal.loop-k-init
loop-k-init c = past_start c.args.deques.now c.args.w c.args.n

pub returns : goal.returns
returns c = at_end (λ k. all k (zero_past c.args.deques.now c.args.w c.args.n)) (c.loop-k.auto.k-end c.requires.within) c.loop-k-test.false c.loop-k.invariant
