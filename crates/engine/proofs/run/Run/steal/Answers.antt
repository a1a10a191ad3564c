-- Refused, or the steal: `proofs.Steps`.
use Rattle.engine.specs.Run.{core_in}
use Rattle.engine.proofs.Passing.{steal_asks, top_asks}
use Rattle.engine.proofs.Steps.{steal_out, steal_done}
use Rattle.engine.proofs.run.Run.steal.Goals as goal

pub returns-in_err-may_steal-clause-steps : goal.returns-in_err-may_steal-clause-steps
returns-in_err-may_steal-clause-steps c = steal_out (core_in c.args.self.now) c.args.w c.args.v c.from_residual.result _ c.from_residual.ensures.1 c.in_err-may_steal.ensures

pub frame-depth-requires : goal.frame-depth-requires
frame-depth-requires c = top_asks (core_in c.args.self.now) c.args.w c.args.v c.requires.core c.in_ok-may_steal.ensures c.top_at-place.result c.top_at-place.ensures

pub steal_frame-requires : goal.steal_frame-requires
steal_frame-requires c = steal_asks (core_in c.args.self.now) c.args.w c.args.v c.requires.core c.in_ok-may_steal.ensures

pub returns-clause-steps : goal.returns-clause-steps
returns-clause-steps c = steal_done (core_in c.args.self.now) c.args.w c.args.v c.in_ok-may_steal.ensures _ c.top_at-place.result c.frame-depth.result c.top_at-place.ensures c.frame-depth.ensures c.steal_frame.ensures
