-- What the promises of the inner functions are said in, beside the definitions of the crates packed and semantics. Definitions only.
use Rattle.std.specs.Prelude.{List, ℕ}
use Rattle.pool.specs.Pool as Four
use Rattle.packed.specs.Pool as Two
use Rattle.packed.specs.Pack.{packed_content}

-- node i of a pool of four-word nodes is turned: its four words become zero, then its two words are stored
unfoldable pub node_packed : List ℕ → ℕ → List ℕ
node_packed ws i = Two.set_node (Four.set_node ws i 0 0 0 0) i (Four.refcount ws i) (packed_content ws i)
