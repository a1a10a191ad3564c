-- One end, of a frame with a parent: `proofs.Ending`.
use Rattle.engine.specs.Run.{core_in}
use Rattle.engine.proofs.Ending.{end_done, totals_stay}
use Rattle.engine.proofs.run.Run.end_child_at.Goals as goal

pub returns-clause-ends : goal.returns-clause-ends
returns-clause-ends c =
    end_done (core_in c.args.self.now) c.args.p c.frame-f.result c.frame-f.ensures _ _ _ c.release-freed.result.first c.release-freed.result.count (rw (c.requires.0, c.free_nodes-free.ensures.0, c.free_nodes-free.ensures.1) at c.release-freed.ensures.words) c.end_below.ensures
    (totals_stay (core_in c.args.self.now) c.args.p c.frame-f.result c.frame-f.ensures c.requires.3)
