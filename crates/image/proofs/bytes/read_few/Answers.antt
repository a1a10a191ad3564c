use Rattle.std.proofs.Common.{refl}
use Rattle.std.proofs.lemmas.List.Edits.{sets}
use Rattle.image.proofs.Loops.{at_end, read_turn}
use Rattle.image.specs.Inner.{words_at}
use Rattle.image.proofs.bytes.read_few.Goals as goal

pub loop-k-init : goal.loop-k-init
unfolding words_at
loop-k-init c = refl

pub loop-k-preserved : goal.loop-k-preserved
loop-k-preserved c =
    let a = c.args in
    read_turn a.to.now c.loop-k.to a.bytes.now a.at a.j c.loop-k.k _ c.word_at.ensures c.loop-k.invariant

pub returns : goal.returns
returns c = at_end (λ m. sets c.args.to.now c.args.j (words_at m c.args.bytes.now c.args.at)) c.loop-k.auto.k-end c.loop-k-test.false c.loop-k.invariant
