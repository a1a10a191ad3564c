-- count nodes are behind, and the rest of the chain is followed from node on.
use Rattle.std.proofs.Common.{◌≡◌, ◌+◌, ◌-◌, length}
use Rattle.words.specs.Basics.{follow}
use Rattle.packed.specs.Pool.{next_free}
use Rattle.soundness.specs.PackedTrees.{free_nodes}
use Rattle.splitter.proofs.queries.count_free.Given as goal

abbrev pub invariant-loop-count : goal.invariant-loop-count
invariant-loop-count l = l.count + length (follow (l.most - l.count) (next_free l.pool) l.node) ≡ length (free_nodes l.nodes l.pool l.first)
