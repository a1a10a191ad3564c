-- Refused by a test of the worker, or the step of its frame.
use Rattle.std.proofs.Common.{refl}
use Rattle.model.specs.declared.Step.TheVariants.{Sync}
use Rattle.engine.specs.Run.{core_in}
use Rattle.engine.proofs.Passing.{within, acts}
use Rattle.engine.proofs.Steps.{acting_out, sync_done}
use Rattle.engine.proofs.run.Run.sync.Goals as goal

pub returns-in_err-a-clause-steps : goal.returns-in_err-a-clause-steps
returns-in_err-a-clause-steps c = acting_out (core_in c.args.self.now) (Sync c.args.w) c.args.w refl c.from_residual.result _ c.from_residual.ensures.1 c.in_err-a.ensures

pub frame-f-requires : goal.frame-f-requires
frame-f-requires c = within (core_in c.args.self.now) c.args.w c.in_ok-a.a c.requires.core c.in_ok-a.ensures

pub sync_frame-outcome-requires : goal.sync_frame-outcome-requires
sync_frame-outcome-requires c = acts (core_in c.args.self.now) c.args.w c.in_ok-a.a c.requires.core c.in_ok-a.ensures c.frame-f.result c.frame-f.ensures

pub returns-clause-steps : goal.returns-clause-steps
returns-clause-steps c = sync_done (core_in c.args.self.now) c.args.w c.in_ok-a.ensures.1 _ _ c.sync_frame-outcome.result c.sync_frame-outcome.ensures
