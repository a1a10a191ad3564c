use Rattle.std.proofs.Common.{◌≡◌, ◌-◌, sym, ap, ◌∙◌, arith}
use Rattle.pool_check.specs.Algorithm.{chain_from}
use Rattle.pool_check.proofs.Laws.{chain_off, chain_full, chain_next, chain_end}
use Rattle.pool_check.proofs.free.follow_free.Goals as goal

pub loop-init : goal.loop-init
loop-init g c = let e : c.args.count - 0 ≡ c.args.count = omega arith in ap (λ q. chain_from g.L.NodeLayout.reading c.args.nodes c.args.pool.now c.args.work.now q c.args.first) e

pub returns-then-a-nodes : goal.returns-then-a-nodes
returns-then-a-nodes g c = sym (chain_off g.L.NodeLayout.reading _ _ _ _ _ (omega arith) c.if-a-nodes.true) ∙ c.loop.invariant

pub returns-then-not-is_vacant : goal.returns-then-not-is_vacant
returns-then-not-is_vacant g c = sym (chain_full g.L.NodeLayout.reading _ _ _ _ _ (omega arith) (sym c.is_vacant.ensures ∙ c.if-not-is_vacant.true)) ∙ c.loop.invariant

pub loop-preserved : goal.loop-preserved
loop-preserved g c = rw c.next_free-a.ensures (chain_next g.L.NodeLayout.reading _ _ _ _ _ _ (omega arith) c.if-a-nodes.false (sym c.is_vacant.ensures ∙ c.if-not-is_vacant.false)) ∙ c.loop.invariant

pub returns : goal.returns
returns g c = chain_end g.L.NodeLayout.reading _ _ _ _ _ (omega arith) ∙ c.loop.invariant
