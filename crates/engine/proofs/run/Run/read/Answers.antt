-- Refused by a test of the worker or by the splitter's, or the read.
use Rattle.std.proofs.Common.{refl}
use mathlib.Core.Path.{ap}
use Rattle.frames.specs.declared.Frame.{Frame}
use Rattle.model.specs.declared.Step.TheVariants.{Read}
use Rattle.engine.specs.Run.{core_in}
use Rattle.engine.proofs.Passing.{within}
use Rattle.engine.proofs.Steps.{acting_out, read_none, read_done}
use Rattle.engine.proofs.run.Run.read.Goals as goal

pub returns-in_err-a : goal.returns-in_err-a
returns-in_err-a c = acting_out (core_in c.args.self.now) (Read c.args.w c.args.x) c.args.w refl c.from_residual.result _ c.from_residual.ensures.1 c.in_err-a.ensures

pub returns-then-x-self : goal.returns-then-x-self
returns-then-x-self c = read_none (core_in c.args.self.now) c.args.w c.in_ok-a.ensures.1 c.args.x c.if-x-self.true

pub frame-root-requires : goal.frame-root-requires
frame-root-requires c = within (core_in c.args.self.now) c.args.w c.in_ok-a.a c.requires.core c.in_ok-a.ensures

pub returns : goal.returns
returns c =
    read_done (core_in c.args.self.now) c.args.w c.in_ok-a.ensures.1 c.in_ok-a.a.place c.frame-root.result.root c.args.x c.in_ok-a.ensures.2.acting (ap (λ (g : Frame). g.root) c.frame-root.ensures) c.if-x-self.false _ c.read_at.ensures
