-- What is left from here ends as the whole from the first frame; the measure is the depth of the frame that ends.
use Rattle.std.proofs.Common.{◌≡◌}
use Rattle.frames.specs.Frames.{frame_at}
use Rattle.engine.specs.Run.{core_in, SameRun, EndsFrom, ends_from}
use Rattle.engine.proofs.run.Run.end_upward.Given as goal

abbrev pub invariant-loop-w : goal.invariant-loop-w
invariant-loop-w l = record {
  parts : SameRun l.fn.self l.self;
  nodes : l.self.pool.now.nodes ≡ l.self.head.numbers.nodes;
  ready : EndsFrom (core_in l.self) l.w 1 l.p;
  goes : ends_from (core_in l.self) l.w l.p ≡ ends_from (core_in l.fn.self) l.w l.first;
}

abbrev pub decreases-loop-w : goal.decreases-loop-w
decreases-loop-w l = (frame_at l.self.frames.now l.p).depth
