-- The younger sibling itself, which has no live child.
use Rattle.std.proofs.Common.{◌≡◌, ap, sym, ◌∙◌, length}
use borrow.Author.Tests.{ne_eqb}
use Rattle.words.specs.Basics.{none}
use Rattle.frames.specs.declared.Frame.{Frame}
use Rattle.frames.specs.Siblings.{first_from}
use Rattle.frames.proofs.Theory.Order.{first-stop}
use Rattle.frames.proofs.Ways.{sibling_after}
use Rattle.frames.proofs.siblings.next_after.Goals as goal

pub returns-then-frame_or_zero-eq0 : goal.returns-then-frame_or_zero-eq0
returns-then-frame_or_zero-eq0 c =
    let fs = c.args.frames.now in
    let f = c.frame_at-f.result in
    let stops : f.younger ≡ first_from (length fs) fs f.younger = sym (first-stop (length fs) fs f.younger (sym (ap (λ (g : Frame). g.outstanding) c.frame_or_zero.ensures) ∙ c.if-frame_or_zero-eq0.true)) in
    sibling_after fs c.args.p c.args.q f f.younger c.requires.0.up c.requires.2 c.frame_at-f.ensures (stops ∙ rw (ne_eqb f.younger none c.if-y.false))
