-- The turns and the ways out are in `proofs.Ending`.
use Rattle.std.proofs.Common.{refl, sym, ap, ◌∙◌}
use Rattle.frames.specs.Steps.{ends_too}
use Rattle.engine.specs.Run.{core_in}
use Rattle.engine.proofs.RunParts.{same_after, same_nodes}
use Rattle.engine.proofs.Ending.{finishes, go_asks, stops, next_from, next_same}
use Rattle.engine.proofs.run.Run.end_upward.Goals as goal

pub returns-then-parent-clause-ends : goal.returns-then-parent-clause-ends
returns-then-parent-clause-ends c = finishes (core_in c.loop-w.self) c.args.w 1 c.loop-w.p c.loop-w.invariant.ready (core_in c.end_at-parent.new.self) c.end_at-parent.ensures.ends c.end_at-parent.result c.end_at-parent.ensures.parent refl c.if-parent.true ∙ c.loop-w.invariant.goes

pub go_on-requires : goal.go_on-requires
go_on-requires c = go_asks (core_in c.loop-w.self) c.args.w 1 c.loop-w.p c.loop-w.invariant.ready (core_in c.end_at-parent.new.self) c.end_at-parent.ensures.ends c.end_at-parent.result c.end_at-parent.ensures.parent refl c.if-parent.false

pub returns-then-not-ends_too-clause-ends : goal.returns-then-not-ends_too-clause-ends
returns-then-not-ends_too-clause-ends c =
    stops (core_in c.loop-w.self) c.args.w 1 c.loop-w.p c.loop-w.invariant.ready (core_in c.end_at-parent.new.self) c.end_at-parent.ensures.ends c.end_at-parent.result c.end_at-parent.ensures.parent refl c.if-parent.false _ _ c.go_on.result (sym (c.ends_too.ensures ∙ ap ends_too c.frame-f.ensures) ∙ c.if-not-ends_too.true) c.go_on.ensures ∙ c.loop-w.invariant.goes

pub loop-w-preserved : goal.loop-w-preserved
loop-w-preserved c =
    record {
      parts = same_after c.loop-w.invariant.parts c.end_at-parent.ensures.same;
      nodes = same_nodes c.loop-w.invariant.nodes c.end_at-parent.ensures.same;
      ready = next_from (core_in c.loop-w.self) c.args.w 1 c.loop-w.p c.loop-w.invariant.ready (core_in c.end_at-parent.new.self) c.end_at-parent.ensures.ends c.end_at-parent.result c.end_at-parent.ensures.parent refl c.if-parent.false (sym (c.ends_too.ensures ∙ ap ends_too c.frame-f.ensures) ∙ c.if-not-ends_too.false);
      goes = next_same (core_in c.loop-w.self) c.args.w 1 c.loop-w.p c.loop-w.invariant.ready (core_in c.end_at-parent.new.self) c.end_at-parent.ensures.ends c.end_at-parent.result c.end_at-parent.ensures.parent refl c.if-parent.false (sym (c.ends_too.ensures ∙ ap ends_too c.frame-f.ensures) ∙ c.if-not-ends_too.false) ∙ c.loop-w.invariant.goes;
    }
