-- One end: `proofs.Ending`. Its tree was released first, by the root that it still has.
use mathlib.Core.Path.{sym, ap, ◌∙◌}
use Rattle.frames.specs.declared.Frame.{Frame}
use Rattle.engine.specs.Run.{core_in}
use Rattle.engine.proofs.Ending.{end_done}
use Rattle.engine.proofs.run.Run.end_at.Goals as goal

pub returns-clause-ends : goal.returns-clause-ends
returns-clause-ends c =
    end_done (core_in c.args.self.now) c.args.p c.frame-f.result c.frame-f.ensures _ _ _ c.release-freed.result.first c.release-freed.result.count
    (rw (c.requires.0, c.free_nodes-free.ensures.0, c.free_nodes-free.ensures.1, ap (λ (g : Frame). g.root) (c.frame-root.ensures ∙ sym c.frame-f.ensures)) at c.release-freed.ensures.words) c.end_frame.ensures c.end_totals.ensures.0
