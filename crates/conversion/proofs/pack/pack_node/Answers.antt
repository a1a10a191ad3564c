-- What was stored is `node_packed`, opened; the second word is what `packed_content` answered.
use Rattle.pool.specs.Pool as Four
use Rattle.packed.specs.Pool as Two
use Rattle.packed.specs.Pack.{packed_content}
use Rattle.conversion.specs.Promises.{node_packed}
use Rattle.conversion.proofs.pack.pack_node.Goals as goal

pub returns : goal.returns
unfolding node_packed packed_content Four.set_node Four.refcount Four.left Four.right Four.value Two.set_node
returns c = rw c.packed_content-content.ensures
