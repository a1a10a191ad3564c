use mathlib.Core.Path.{◌∙◌, sym}
use Rattle.engine.proofs.Starts.{start_refused_lem, started}
use Rattle.engine.proofs.begin.start_on.Goals as goal

pub returns-then-is_err-clause-starts : goal.returns-then-is_err-clause-starts
returns-then-is_err-clause-starts c =
    start_refused_lem _ _ _ _ _ c.whole_nodes-nodes.ensures _ c.may_start-refused.ensures (sym c.is_err.ensures.value ∙ c.if-is_err.true) _ _ _ c.clear.ensures.zero

pub returns-clause-starts : goal.returns-clause-starts
returns-clause-starts c =
    started _ _ _ _ _ c.whole_nodes-nodes.ensures _ c.may_start-refused.ensures (sym c.is_err.ensures.value ∙ c.if-is_err.false) _ _ _ _ _ _ c.init_pool-free.ensures c.init_deques.ensures c.init_frames.ensures c.first_numbers.ensures c.put_numbers.ensures
