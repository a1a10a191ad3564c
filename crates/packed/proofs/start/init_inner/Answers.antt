use Rattle.std.proofs.Common.{◌≡◌, ◌+◌, ◌-◌, ◌∙◌, arith}
use Rattle.packed.proofs.Laws.{parts, inner_step, inner_end}
use Rattle.packed.proofs.start.init_inner.Goals as goal

pub loop-l-preserved : goal.loop-l-preserved
loop-l-preserved c =
    let e : c.loop-l.l - 1 + 1 ≡ c.loop-l.l = omega arith in
    rw (c.init_level.ensures, c.width_of.ensures, c.width_of-count.ensures, e) (inner_step _ _ _ _ c.loop-l-test.true ∙ c.loop-l.invariant)

pub returns : goal.returns
returns c = parts (inner_end _ _ _ _ c.loop-l-test.false ∙ c.loop-l.invariant)
