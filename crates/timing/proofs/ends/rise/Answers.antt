-- A law of `proofs.Laws` for each way out, and for a frame that ends with its child.
use Rattle.std.proofs.Common.{◌≡◌, ℕ, ◌+◌, ◌-◌, ap, ◌∙◌, arith}
use Rattle.frames.specs.declared.Frame.{Frame}
use Rattle.semantics.specs.Timing.{rise}
use Rattle.timing.proofs.Laws.{rise-main, rise_goes_on, rise_passes, rise_ends}
use Rattle.timing.proofs.ends.rise.Goals as goal

pub returns-then-not-waits_for_one : goal.returns-then-not-waits_for_one
returns-then-not-waits_for_one c =
    let l = c.loop in
    rise_goes_on c.args.frames.now c.args.clocks.now l.p l.clock _ _ c.frame_or_zero-f.result c.waits_for_one.result (omega (arith, c.loop-test.true)) (ap (λ (g : Frame). g.parent) c.frame_or_zero-q.ensures) c.frame_or_zero-f.ensures c.waits_for_one.ensures _ c.if-not-waits_for_one.true c.stops_at.ensures
    ∙ l.invariant

pub returns-then-f-ne1 : goal.returns-then-f-ne1
returns-then-f-ne1 c =
    let l = c.loop in
    rise_passes c.args.frames.now c.args.clocks.now l.p l.clock _ _ c.frame_or_zero-f.result c.waits_for_one.result (omega (arith, c.loop-test.true)) (ap (λ (g : Frame). g.parent) c.frame_or_zero-q.ensures) c.frame_or_zero-f.ensures c.waits_for_one.ensures _ c.if-not-waits_for_one.false c.if-f-ne1.true c.stops_at-then-f-ne1.ensures
    ∙ l.invariant

pub loop-preserved : goal.loop-preserved
loop-preserved c =
    let l = c.loop in
    let left : c.frame_or_zero-end.result.depth - (l.counter + 1) ≡ c.frame_or_zero-end.result.depth - l.counter - 1 = omega arith in
    ap (λ (d : ℕ). rise d c.args.frames.now c.args.clocks.now c.frame_or_zero-q.result.parent c.max-clock.result) left
    ∙ rise_ends c.args.frames.now c.args.clocks.now l.p l.clock _ _ c.frame_or_zero-f.result c.waits_for_one.result (omega (arith, c.loop-test.true)) (ap (λ (g : Frame). g.parent) c.frame_or_zero-q.ensures) c.frame_or_zero-f.ensures c.waits_for_one.ensures _ _ c.if-not-waits_for_one.false c.if-f-ne1.false c.latest_at.ensures c.max-clock.ensures
    ∙ l.invariant

pub returns : goal.returns
returns c =
    let l = c.loop in
    rise-main c.args.frames.now c.args.clocks.now l.p l.clock _ _ (omega (arith, c.loop-test.false)) c.stops_at-2.ensures ∙ l.invariant
