use Rattle.std.proofs.Common.{◌∙◌}
use Rattle.pool_check.proofs.Laws.{settle_wrong, settle-right}
use Rattle.pool_check.proofs.settle.Goals as goal

pub returns-in_err-free : goal.returns-in_err-free
returns-in_err-free g c = c.from_residual.ensures ∙ settle_wrong g.L.NodeLayout.reading _ _ _ _ _ c.scan.ensures c.in_err-free.was

pub returns : goal.returns
returns g c = c.then_some.ensures ∙ rw c.follow_free.ensures (settle-right g.L.NodeLayout.reading _ _ _ _ _ c.scan.ensures _ c.in_ok-free.was)
