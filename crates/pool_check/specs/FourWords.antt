-- Nodes of four words as the check reads them. Definitions only.
use Rattle.std.specs.Prelude.{Bool, ◌&&◌, List, ℕ, zero, suc, eqb}
use Rattle.words.specs.Basics.{none}
use Rattle.pool.specs.Pool.{refcount, left, right, value, next_free}
use Rattle.soundness.specs.Layout.{four_words}
use Rattle.pool_check.specs.Reading.{Reading}
use Rattle.pool_check.specs.Algorithm.{fresh}

-- what a node of level l has, its children aside: "Inner nodes have value 0, leaves have no links."
abbrev pub shaped : List ℕ → ℕ → ℕ → Bool
shaped ws zero i = eqb (left ws i) none && eqb (right ws i) none
shaped ws (suc l) i = eqb (value ws i) 0

-- node i has no right child and no value, as a free node
abbrev pub bare : List ℕ → ℕ → Bool
bare ws i = eqb (right ws i) 0 && eqb (value ws i) 0

-- and was not visited
unfoldable pub vacant : List ℕ → List ℕ → ℕ → Bool
vacant ws w i = eqb (fresh w i) 1 && bare ws i

abbrev pub four : Reading
four = record { layout = four_words; left = left; right = right; none = none; holders = refcount; next_free = next_free; shaped = shaped; vacant = vacant }
