-- The tests in order; the ways out are in `proofs.Laws`.
use Rattle.engine.specs.Run.{core_in}
use Rattle.engine.proofs.Laws.{idles_by, steal_busy, steal_passes, steal_main_returned, steal_no_victim}
use Rattle.engine.proofs.run.Run.may_steal.Goals as goal

pub returns-then-size_at-ne0 : goal.returns-then-size_at-ne0
returns-then-size_at-ne0 c = steal_busy (core_in c.args.self.now) c.args.w c.args.v c.if-w-self.false _ c.size_at.ensures c.if-size_at-ne0.true

pub returns-then-not-no_victim : goal.returns-then-not-no_victim
returns-then-not-no_victim c = steal_passes (core_in c.args.self.now) c.args.w c.args.v c.if-w-self.false _ c.size_at.ensures c.if-size_at-ne0.false _ c.no_victim.ensures c.if-not-no_victim.true

pub returns-then-all_idle : goal.returns-then-all_idle
returns-then-all_idle c =
    steal_main_returned (core_in c.args.self.now) c.args.w c.args.v c.if-w-self.false _ c.size_at.ensures c.if-size_at-ne0.false _ c.no_victim.ensures (idles_by (core_in c.args.self.now) c.requires c.all_idle.ensures c.if-all_idle.true)

pub returns : goal.returns
returns c =
    steal_no_victim (core_in c.args.self.now) c.args.w c.args.v c.if-w-self.false _ c.size_at.ensures c.if-size_at-ne0.false _ c.no_victim.ensures c.if-not-no_victim.false (idles_by (core_in c.args.self.now) c.requires c.all_idle.ensures c.if-all_idle.false)
