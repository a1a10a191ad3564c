use Rattle.std.proofs.Common.{arith, refl, ◌*◌, ◌+◌}
use Rattle.std.proofs.lemmas.List.Edits.{sets}
use Rattle.image.proofs.Loops.{at_end, words-next}
use Rattle.image.specs.Inner.{words_at}
use Rattle.image.proofs.bytes.read_fours.Goals as goal

pub loop-k-init : goal.loop-k-init
unfolding words_at
loop-k-init c = refl

pub loop-k-preserved : goal.loop-k-preserved
loop-k-preserved c =
    let a = c.args in
    let k = c.loop-k.k in
    words-next a.to.now c.loop-k.to _ a.bytes.now a.at a.j (4 * k) 4 (4 * (k + 1)) (a.j + 4 * k) (a.at + 16 * k) (omega arith) refl (omega arith) c.loop-k.invariant c.read_four.ensures

pub returns : goal.returns
returns c = at_end (λ m. sets c.args.to.now c.args.j (words_at (4 * m) c.args.bytes.now c.args.at)) c.loop-k.auto.k-end c.loop-k-test.false c.loop-k.invariant
