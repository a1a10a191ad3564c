-- How it begins, a turn, the ways out of the chain, and its end.
use Rattle.std.proofs.Common.{sym}
use Rattle.frames.specs.Frames.{frame_at}
use Rattle.frame_check.proofs.Laws.{few_children, links_begin, links_turn, links_fail, links_past, links_end}
use Rattle.frame_check.proofs.links.siblings_sound.Goals as goal

pub returns-then-not-many_children : goal.returns-then-not-many_children
returns-then-not-many_children c = few_children c.args.frames.now c.args.q c.args.t c.frame_at.ensures (sym c.if-not-many_children.ensures)

pub loop-init : goal.loop-init
loop-init c = links_begin c.args.frames.now c.args.q c.args.t c.frame_at.ensures (sym c.if-not-many_children.ensures) c.link_sum.ensures c.saturating_sub-c.ensures c.child_count-end.ensures

pub loop-preserved : goal.loop-preserved
unfolding frame_at
loop-preserved c = links_turn c.args.frames.now c.args.q _ _ _ _ c.loop.invariant c.loop-test.true c.if-c-frames.false (sym c.if-not-is_child.ensures)

pub returns-then-c-frames : goal.returns-then-c-frames
returns-then-c-frames c = links_past c.args.frames.now c.args.q _ _ _ _ c.loop.invariant c.loop-test.true c.if-c-frames.true

pub returns-then-not-is_child : goal.returns-then-not-is_child
unfolding frame_at
returns-then-not-is_child c = links_fail c.args.frames.now c.args.q _ _ _ _ c.loop.invariant c.loop-test.true c.if-c-frames.false (sym c.if-not-is_child.ensures)

pub returns : goal.returns
returns c = links_end c.args.frames.now c.args.q _ _ _ _ c.loop.invariant c.loop-test.false
