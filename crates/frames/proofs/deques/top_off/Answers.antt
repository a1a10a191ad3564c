-- A turn of the loop is in `proofs.Loops`.
use Rattle.std.proofs.Common.{◌≡◌, ◌≤◌, ◌∙◌, length, arith}
use Rattle.frames.specs.Widths.{deque_places, deque_words}
use Rattle.frames.proofs.Loops.{sink_size, sink_turn}
use Rattle.frames.proofs.deques.top_off.Goals as goal

pub loop-k-preserved : goal.loop-k-preserved
loop-k-preserved c =
    let l = c.loop-k in
    let n = c.size_at-n.result in
    let long : length l.deques ≡ deque_words = omega arith in
    let fits : n ≤ deque_places = omega (arith, c.size_at-n.ensures, c.requires.2) in (
      sink_turn l.deques _ c.args.w n l.k long c.requires.0 l.auto.k c.loop-k-test.true fits c.swap.ensures.after ∙ l.invariant.0,
      sink_size l.deques _ c.args.w n l.k long c.requires.0 l.auto.k c.loop-k-test.true fits c.swap.ensures.after ∙ l.invariant.1,
    )
