use Rattle.std.proofs.Common.{sym, ◌∙◌}
use Rattle.image.proofs.Loops.{hold_end, hold_start, hold_turn}
use Rattle.image.proofs.accept.checks_right.Goals as goal

pub loop-k-init : goal.loop-k-init
loop-k-init c = hold_start c.args.image.now c.args.n

pub returns-then-not-block_right : goal.returns-then-not-block_right
returns-then-not-block_right c =
    let a = c.args in
    rw (sym c.block_right.ensures, c.if-not-block_right.true) at (sym (hold_turn a.image.now c.loop-k.k a.n c.loop-k-test.true) ∙ c.loop-k.invariant)

pub loop-k-preserved : goal.loop-k-preserved
loop-k-preserved c =
    let a = c.args in
    rw (sym c.block_right.ensures, c.if-not-block_right.false) at (sym (hold_turn a.image.now c.loop-k.k a.n c.loop-k-test.true) ∙ c.loop-k.invariant)

pub returns : goal.returns
returns c = hold_end c.args.image.now c.loop-k.k c.args.n c.loop-k-test.false c.loop-k.invariant
