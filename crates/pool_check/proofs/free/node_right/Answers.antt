use Rattle.pool_check.specs.Algorithm.{node_right}
use Rattle.pool_check.proofs.free.node_right.Goals as goal

pub returns : goal.returns
unfolding node_right
returns g c = rw (c.holders.ensures, c.counted.ensures)
