use Rattle.std.proofs.Common.{◌∙◌, arith}
use Rattle.sizes.specs.Bits.{bit_lt}
use Rattle.packed.specs.Pool.{sibling}
use Rattle.packed.proofs.Words.{side_link, relinked_is, copied_node}
use Rattle.packed.proofs.node_pool.Pool.copy_node.Goals as goal

pub retain-requires : goal.retain-requires
unfolding sibling
retain-requires c =
    let e = c.link_of.ensures ∙ side_link _ _ _ _ c.beside.ensures c.links-links.ensures.1 c.links-links.ensures.0 in
    rw (c.store.ensures.nodes, e) c.requires.4

pub returns-clause-words : goal.returns-clause-words
returns-clause-words c =
    copied_node _ _ _ _ _ _ _ (bit_lt _ _)
    (relinked_is _ _ _ _ _ _ _ c.links-links.result.left_fits c.links-links.result.right_fits (omega arith) c.relinked.ensures.0 c.relinked.ensures.1 c.from.ensures c.links-links.ensures.0 c.links-links.ensures.1)
    (c.link_of.ensures ∙ side_link _ _ _ _ c.beside.ensures c.links-links.ensures.1 c.links-links.ensures.0)
    c.store.ensures.words c.retain.ensures.words
