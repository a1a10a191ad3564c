use Rattle.std.proofs.Common.{arith, sym, ◌∙◌}
use borrow.Author.Tests.{eq-eqb, ne_eqb}
use Rattle.image.proofs.Loops.{zero_end, zero_start, zero_turn}
use Rattle.image.proofs.accept.zeros.Goals as goal

pub loop-k-init : goal.loop-k-init
loop-k-init c = zero_start c.args.image.now c.args.at c.args.n

pub returns-then-word_at-ne0 : goal.returns-then-word_at-ne0
returns-then-word_at-ne0 c =
    let a = c.args in
    rw (← c.word_at.ensures, ne_eqb _ 0 c.if-word_at-ne0.true) at (sym (zero_turn a.image.now a.at c.loop-k.k a.n c.loop-k-test.true (omega arith)) ∙ c.loop-k.invariant)

pub loop-k-preserved : goal.loop-k-preserved
loop-k-preserved c =
    let a = c.args in
    rw (← c.word_at.ensures, eq-eqb _ 0 c.if-word_at-ne0.false) at (sym (zero_turn a.image.now a.at c.loop-k.k a.n c.loop-k-test.true (omega arith)) ∙ c.loop-k.invariant)

pub returns : goal.returns
returns c = zero_end c.args.image.now c.args.at c.loop-k.k c.args.n c.loop-k-test.false c.loop-k.invariant
