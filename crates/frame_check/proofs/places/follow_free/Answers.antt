-- A turn, the ways out of the chain, and its end.
use Rattle.std.proofs.Common.{sym}
use Rattle.frames.specs.Frames.{frame_at}
use Rattle.frame_check.proofs.Laws.{free_turn, free_fails, free_past, free_ends}
use Rattle.frame_check.proofs.places.follow_free.Goals as goal

pub loop-preserved : goal.loop-preserved
unfolding frame_at
loop-preserved c = free_turn c.args.frames.now c.args.count c.args.first _ _ c.loop.invariant c.loop-test.true c.if-p-frames.false (sym c.if-not-free_sound.ensures)

pub returns-then-p-frames : goal.returns-then-p-frames
returns-then-p-frames c = free_past c.args.frames.now c.args.count c.args.first _ _ c.loop.invariant c.loop-test.true c.if-p-frames.true

pub returns-then-not-free_sound : goal.returns-then-not-free_sound
unfolding frame_at
returns-then-not-free_sound c = free_fails c.args.frames.now c.args.count c.args.first _ _ c.loop.invariant c.loop-test.true c.if-p-frames.false (sym c.if-not-free_sound.ensures)

pub returns : goal.returns
returns c = free_ends c.args.frames.now c.args.count c.args.first _ _ c.loop.invariant c.loop-test.false
