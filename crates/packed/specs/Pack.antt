-- R-9: four-word nodes turned into two-word nodes, in the front of the same words. Definitions only; every one is total.
use Rattle.std.specs.Prelude.{cond, List, [], ◌∷◌, ◌++◌, ℕ, zero, suc, ◌*◌, drop, replicate, eqb}
use Rattle.words.specs.Basics.{none}
use Rattle.pool.specs.Pool as Four
use Rattle.packed.specs.Pool.{links}

-- ws are the words of a pool of four-word nodes

-- the second word of node i as a two-word node: "left plus 65,536 times right for inner nodes with 65,535 for none, the value for a leaf, the next free
-- node or none for a free one". In a sound pool a node without holders is free, and one with holders and without a left link is a leaf
unfoldable pub packed_content : List ℕ → ℕ → ℕ
packed_content ws i =
    cond (eqb (Four.refcount ws i) 0) (Four.next_free ws i)
    (cond (eqb (Four.left ws i) none) (Four.value ws i) (links (Four.left ws i) (Four.right ws i)))

-- the two words of each of c nodes from node i on
unfoldable pub packed_from : ℕ → List ℕ → ℕ → List ℕ
packed_from zero ws i = []
packed_from (suc c) ws i = Four.refcount ws i ∷ packed_content ws i ∷ packed_from c ws (suc i)

-- "turn it into two-word nodes in the front of the same slice, the old nodes' remaining words zero"; "Words past the old nodes never change."
unfoldable pub converted : ℕ → List ℕ → List ℕ
converted N ws = packed_from N ws 0 ++ (replicate (2 * N) 0 ++ drop (4 * N) ws)
