use Rattle.packed.specs.Pool.{init_pool}
use Rattle.packed.proofs.start.init_pool.Goals as goal

pub returns : goal.returns
unfolding init_pool
returns c = (
  rw (c.init_free.ensures, c.saturating_sub.ensures, c.init_leaves.ensures, c.init_inner-leaf.ensures.0, c.init_inner-leaf.ensures.1, c.height_of.ensures),
  rw (c.node_if.ensures, c.init_inner-leaf.ensures.1, c.height_of.ensures),
)
