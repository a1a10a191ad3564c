-- Refused by a test of the worker; the ways out are in `proofs.Ending`.
use Rattle.std.proofs.Common.{refl, ap}
use Rattle.frames.specs.declared.Frame.{Frame}
use Rattle.frames.specs.Frames.{frame_at}
use Rattle.model.specs.declared.Step.TheVariants.{Return}
use Rattle.engine.specs.Run.{core_in}
use Rattle.engine.proofs.Passing.{within, acts, ends_asks}
use Rattle.engine.proofs.Steps.{acting_out}
use Rattle.engine.proofs.Ending.{return_waits, return_ends}
use Rattle.engine.proofs.run.Run.return_frame.Goals as goal

pub returns-in_err-a-clause-steps : goal.returns-in_err-a-clause-steps
returns-in_err-a-clause-steps c = acting_out (core_in c.args.self.now) (Return c.args.w) c.args.w refl c.from_residual.result _ c.from_residual.ensures.1 c.in_err-a.ensures

pub frame-requires : goal.frame-requires
frame-requires c = within (core_in c.args.self.now) c.args.w c.in_ok-a.a c.requires.core c.in_ok-a.ensures

pub wait_frame-requires : goal.wait_frame-requires
wait_frame-requires c = acts (core_in c.args.self.now) c.args.w c.in_ok-a.a c.requires.core c.in_ok-a.ensures (frame_at c.args.self.now.frames.now c.in_ok-a.a.place) refl

pub returns-then-frame-ne0-clause-steps : goal.returns-then-frame-ne0-clause-steps
returns-then-frame-ne0-clause-steps c = return_waits (core_in c.args.self.now) c.args.w c.in_ok-a.ensures.1 c.in_ok-a.a.place c.frame.result.outstanding c.in_ok-a.ensures.2.acting (ap (λ (g : Frame). g.outstanding) c.frame.ensures) _ _ c.if-frame-ne0.true c.wait_frame.ensures

pub end_bottom-outcome-requires : goal.end_bottom-outcome-requires
end_bottom-outcome-requires c = (c.requires.nodes, ends_asks (core_in c.args.self.now) c.args.w c.in_ok-a.a c.requires.core c.in_ok-a.ensures c.frame.result c.frame.ensures c.pop_off.new.deques c.pop_off.ensures c.if-frame-ne0.false)

pub returns-clause-steps : goal.returns-clause-steps
returns-clause-steps c = return_ends (core_in c.args.self.now) c.args.w c.in_ok-a.ensures.1 c.in_ok-a.a.place c.frame.result.outstanding c.in_ok-a.ensures.2.acting (ap (λ (g : Frame). g.outstanding) c.frame.ensures) c.pop_off.new.deques c.if-frame-ne0.false c.pop_off.ensures _ c.end_bottom-outcome.ensures.ends
