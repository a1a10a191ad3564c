-- Unfit or not, by the test that the code makes; then the first line and the rest.
use Rattle.std.proofs.Common.{rules, sym, ◌∙◌}
use Rattle.lines.proofs.Whole.{output_unfit, output_fit, fit_numbers}
use Rattle.lines.proofs.run.split_run.Goals as goal

pub returns-then-is_unfit : goal.returns-then-is_unfit
returns-then-is_unfit c =
    output_unfit c.args.input.now c.args.out.now _ _ c.splitters_in-n.ensures c.nodes_in-nodes.ensures (sym c.is_unfit.ensures ∙ c.if-is_unfit.true)
    c.new-output.ensures.bytes c.new-output.ensures.start c.bytes.ensures (search rules) c.len.ensures

pub run_fit-requires : goal.run_fit-requires
run_fit-requires c = fit_numbers _ _ _ (sym c.is_unfit.ensures ∙ c.if-is_unfit.false)

pub returns : goal.returns
returns c =
    output_fit c.args.input.now c.args.out.now _ _ _ c.workers_in-workers.ensures c.splitters_in-n.ensures c.nodes_in-nodes.ensures
    (sym c.is_unfit.ensures ∙ c.if-is_unfit.false) c.workers_in-workers.type_inv c.splitters_in-n.type_inv c.nodes_in-nodes.type_inv
    c.new-output.ensures.bytes c.new-output.ensures.start c.line.ensures c.run_fit.ensures (search rules) c.len-2.ensures
