-- A turn of the loop is in `proofs.Ways`.
use Rattle.std.proofs.Common.{◌≡◌, ap, ◌∙◌, ◌+◌, ◌-◌, ◌<◌, ℕ, arith, length, get_or}
use Rattle.frames.specs.Siblings.{first_from}
use Rattle.frames.proofs.Ways.{first_turn, has_children}
use Rattle.frames.proofs.siblings.first_by.Goals as goal

pub loop-preserved : goal.loop-preserved
loop-preserved c =
    let fs = c.args.frames.now in
    let l = c.loop in
    let left : ℕ = length fs - l.counter in
    let less : length fs - (l.counter + 1) ≡ left - 1 = omega arith in
    let b : l.p < length fs = has_children fs l.p _ c.frame_or_zero.ensures c.if-frame_or_zero-eq0.false in
    ap (λ (k : ℕ). first_from k fs (get_or c.args.eldests.now l.p 0)) less ∙ ap (λ (k : ℕ). first_from (left - 1) fs k) (c.requires.1 l.p (omega (arith, c.requires.0)))
    ∙ first_turn fs l.p left _ c.frame_or_zero.ensures (omega arith) c.if-frame_or_zero-eq0.false ∙ l.invariant
