-- All workers are idle, or this one; the tests' ways out are in `proofs.Laws`.
use Rattle.engine.specs.Run.{core_in}
use Rattle.engine.proofs.Laws.{idles_by, acting_idle}
use Rattle.engine.proofs.run.Run.acting.Goals as goal

pub returns : goal.returns
returns c =
    acting_idle (core_in c.args.self.now) c.args.w _ c.if-w-self.false c.size_at-count.ensures c.if-count-ne0.false (idles_by (core_in c.args.self.now) c.requires c.all_idle.ensures c.if-all_idle.false)
