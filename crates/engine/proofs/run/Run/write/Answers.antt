-- No such splitter, a leaf of its own, too few free nodes, or new nodes: `proofs.Steps`.
use Rattle.std.proofs.Common.{refl}
use mathlib.Core.Path.{◌∙◌, ap}
use Rattle.frames.specs.declared.Frame.{Frame}
use Rattle.frames.specs.Frames.{with_root, set_frame}
use Rattle.model.specs.declared.Step.TheVariants.{Write}
use Rattle.engine.specs.Run.{core_in}
use Rattle.engine.proofs.Passing.{within, leaf_asks, write_asks}
use Rattle.engine.proofs.Steps.{acting_out, write_none, write_leaf, write_full, write_done}
use Rattle.engine.proofs.run.Run.write.Goals as goal

pub returns-in_err-a-clause-steps : goal.returns-in_err-a-clause-steps
returns-in_err-a-clause-steps c = acting_out (core_in c.args.self.now) (Write c.args.w c.args.x c.args.v) c.args.w refl c.from_residual.result _ c.from_residual.ensures.1 c.in_err-a.ensures

pub returns-then-x-self-clause-steps : goal.returns-then-x-self-clause-steps
returns-then-x-self-clause-steps c = write_none (core_in c.args.self.now) c.args.w c.in_ok-a.ensures.1 c.args.x c.args.v c.if-x-self.true

pub frame-root-requires : goal.frame-root-requires
frame-root-requires c = within (core_in c.args.self.now) c.args.w c.in_ok-a.a c.requires.core c.in_ok-a.ensures

pub set_value-requires : goal.set_value-requires
set_value-requires c = rw c.requires.nodes (leaf_asks (core_in c.args.self.now) c.args.w c.in_ok-a.a c.requires.core c.in_ok-a.ensures c.frame-root.result.root (ap (λ (g : Frame). g.root) c.frame-root.ensures) c.args.x c.if-x-self.false c.in-Leaf.ensures)

pub returns-then-self-shared-clause-steps : goal.returns-then-self-shared-clause-steps
returns-then-self-shared-clause-steps c = write_full (core_in c.args.self.now) c.args.w c.in_ok-a.ensures.1 c.in_ok-a.a.place c.frame-root.result.root c.args.x c.in_ok-a.ensures.2.acting (ap (λ (g : Frame). g.root) c.frame-root.ensures) c.if-x-self.false c.in-Node.shared c.in-Node.ensures c.args.v c.if-self-shared.true

pub write_shared-written-requires : goal.write_shared-written-requires
write_shared-written-requires c = rw (c.requires.nodes, c.free_nodes-free.ensures.0, c.free_nodes-free.ensures.1) (write_asks (core_in c.args.self.now) c.args.w c.in_ok-a.a c.requires.core c.in_ok-a.ensures c.frame-root.result.root (ap (λ (g : Frame). g.root) c.frame-root.ensures) c.args.x c.if-x-self.false c.in-Node.ensures c.if-self-shared.false)

pub frame-f-requires : goal.frame-f-requires
frame-f-requires c = within (core_in c.args.self.now) c.args.w c.in_ok-a.a c.requires.core c.in_ok-a.ensures

pub put_frame-requires : goal.put_frame-requires
put_frame-requires c = within (core_in c.args.self.now) c.args.w c.in_ok-a.a c.requires.core c.in_ok-a.ensures

pub returns-in-Leaf-clause-steps : goal.returns-in-Leaf-clause-steps
returns-in-Leaf-clause-steps c = write_leaf (core_in c.args.self.now) c.args.w c.in_ok-a.ensures.1 c.in_ok-a.a.place c.frame-root.result.root c.args.x c.in_ok-a.ensures.2.acting (ap (λ (g : Frame). g.root) c.frame-root.ensures) c.if-x-self.false _ c.in-Leaf.ensures c.args.v _ c.set_value.ensures.words

pub returns-else-self-shared-clause-steps : goal.returns-else-self-shared-clause-steps
returns-else-self-shared-clause-steps c =
    write_done (core_in c.args.self.now) c.args.w c.in_ok-a.ensures.1 c.in_ok-a.a.place c.frame-root.result.root c.args.x c.in_ok-a.ensures.2.acting (ap (λ (g : Frame). g.root) c.frame-root.ensures) c.if-x-self.false c.in-Node.shared c.in-Node.ensures c.args.v c.if-self-shared.false _ _ c.write_shared-written.result.free.first c.write_shared-written.result.free.count c.write_shared-written.result.root (rw (c.free_nodes-free.ensures.0, c.free_nodes-free.ensures.1) at c.write_shared-written.ensures.words)
    (c.put_frame.ensures ∙ ap (set_frame c.args.self.now.frames.now c.in_ok-a.a.place) (c.with_root.ensures ∙ ap (λ (g : Frame). with_root g c.write_shared-written.result.root) c.frame-f.ensures))
