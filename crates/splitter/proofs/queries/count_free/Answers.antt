-- The turn of the loop: `chain_turn`.
use Rattle.std.proofs.Common.{◌∙◌, ℕ, ◌+◌, ◌-◌, length, ap, arith}
use Rattle.words.specs.Basics.{follow}
use Rattle.packed.specs.Pool.{next_free}
use Rattle.splitter.proofs.Chains.{chain_turn}
use Rattle.splitter.proofs.queries.count_free.Goals as goal

pub loop-count-preserved : goal.loop-count-preserved
loop-count-preserved c =
    let next = next_free c.args.pool.now in
    let k = c.loop-count.count in
    let most : ℕ = c.args.nodes + 1 in
    ap (λ (x : ℕ). k + 1 + length (follow (most - (k + 1)) next x)) c.next_of-node.ensures ∙ chain_turn next most k c.loop-count.node (omega arith) c.if-node.false ∙ c.loop-count.invariant
