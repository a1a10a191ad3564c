-- total is the sum of the widths below l.
use Rattle.std.proofs.Common.{◌≡◌}
use Rattle.words.specs.Basics.{sum}
use Rattle.sizes.specs.Sizes.{width}
use Rattle.sizes.proofs.tree_nodes.Given as goal

abbrev pub invariant-loop-l : goal.invariant-loop-l
invariant-loop-l l = l.total ≡ sum l.l (width l.n)
