-- Refused by a test of the worker, or the step of its frame.
use Rattle.std.proofs.Common.{refl}
use Rattle.model.specs.declared.Step.TheVariants.{Fold}
use Rattle.engine.specs.Run.{core_in}
use Rattle.engine.proofs.Passing.{within}
use Rattle.engine.proofs.Steps.{acting_out, fold_none, fold_done}
use Rattle.engine.proofs.run.Run.fold.Goals as goal

pub returns-in_err-a-clause-steps : goal.returns-in_err-a-clause-steps
returns-in_err-a-clause-steps c = acting_out (core_in c.args.self.now) (Fold c.args.w c.args.reducer c.args.v) c.args.w refl c.from_residual.result _ c.from_residual.ensures.1 c.in_err-a.ensures

pub returns-then-reducer-ge-REDUCERS-clause-steps : goal.returns-then-reducer-ge-REDUCERS-clause-steps
returns-then-reducer-ge-REDUCERS-clause-steps c = fold_none (core_in c.args.self.now) c.args.w c.in_ok-a.ensures.1 c.args.reducer c.args.v c.if-reducer-ge-REDUCERS.true

pub fold_at-requires : goal.fold_at-requires
fold_at-requires c = within (core_in c.args.self.now) c.args.w c.in_ok-a.a c.requires.core c.in_ok-a.ensures

pub returns-clause-steps : goal.returns-clause-steps
returns-clause-steps c = fold_done (core_in c.args.self.now) c.args.w c.in_ok-a.ensures.1 c.in_ok-a.a.place c.args.reducer c.args.v c.in_ok-a.ensures.2.acting c.if-reducer-ge-REDUCERS.false _ c.fold_at.ensures
