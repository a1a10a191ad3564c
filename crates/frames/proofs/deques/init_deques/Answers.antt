-- Clears the words, then pushes Main: the definition's steps.
use Rattle.std.proofs.Common.{arith}
use Rattle.frames.specs.Deques.{size, init_deques}
use Rattle.frames.proofs.deques.init_deques.Goals as goal

pub push_on-requires : goal.push_on-requires
unfolding size
push_on-requires c = (omega arith, rw (c.fill.ensures.after (λ y e. e), c.told-deques), omega arith)

pub returns : goal.returns
unfolding init_deques
returns c = rw (c.push_on.ensures, c.fill.ensures.after (λ y e. e), c.told-deques)
