-- Refused by a test of the worker, no free place, or the spawn.
use Rattle.std.proofs.Common.{refl}
use Rattle.model.specs.declared.Step.TheVariants.{Spawn}
use Rattle.engine.specs.Run.{core_in}
use Rattle.engine.proofs.Passing.{within, spawn_asks}
use Rattle.engine.proofs.Steps.{acting_out, spawn_full, spawn_done}
use Rattle.engine.proofs.run.Run.spawn.Goals as goal

pub returns-in_err-a-clause-steps : goal.returns-in_err-a-clause-steps
returns-in_err-a-clause-steps c = acting_out (core_in c.args.self.now) (Spawn c.args.w) c.args.w refl c.from_residual.result _ c.from_residual.ensures.1 c.in_err-a.ensures

pub returns-then-free-clause-steps : goal.returns-then-free-clause-steps
returns-then-free-clause-steps c = spawn_full (core_in c.args.self.now) c.args.w c.in_ok-a.ensures.1 c.if-free.true

pub frame-f-requires : goal.frame-f-requires
frame-f-requires c = within (core_in c.args.self.now) c.args.w c.in_ok-a.a c.requires.core c.in_ok-a.ensures

pub spawn_frame-self-requires : goal.spawn_frame-self-requires
spawn_frame-self-requires c = spawn_asks (core_in c.args.self.now) c.args.w c.in_ok-a.a c.requires.core c.in_ok-a.ensures c.frame-f.result c.frame-f.ensures c.if-free.false

pub returns-clause-steps : goal.returns-clause-steps
returns-clause-steps c =
    spawn_done (core_in c.args.self.now) c.args.w c.in_ok-a.ensures.1 c.in_ok-a.a.place c.frame-f.result c.in_ok-a.ensures.2.acting c.frame-f.ensures c.if-free.false _ _ _ c.spawn_frame-self.result c.retain.ensures.words c.spawn_frame-self.ensures
