use Rattle.std.proofs.Common.{arith}
use Rattle.packed.specs.Pool.{set_link, set_content}
use Rattle.packed.proofs.Words.{relinked_is}
use Rattle.packed.proofs.node_pool.Pool.set_link.Goals as goal

pub returns-clause-words : goal.returns-clause-words
unfolding set_link set_content
returns-clause-words c = rw (relinked_is _ _ _ _ _ _ _ c.links.result.left_fits c.links.result.right_fits (omega arith) c.relinked-links.ensures.0 c.relinked-links.ensures.1 c.from.ensures c.links.ensures.0 c.links.ensures.1)
