-- The measure is the level.
use Rattle.packed.proofs.node_pool.Pool.+free_tree.Given as goal

abbrev pub decreases-free_tree : goal.decreases-free_tree
decreases-free_tree l = l.level
