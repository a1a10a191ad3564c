-- R-8, for the reader: "unpacking the new pool gives the old one node for node". Definitions only.
use Rattle.std.specs.Prelude.{cond, List, [], ◌∷◌, ◌++◌, ℕ, zero, suc}
use Rattle.words.specs.Basics.{none}
use Rattle.packed.specs.Pool.{refcount, left, right, value, next_free}
use Rattle.soundness.specs.PackedTrees.{is_inner, is_on}

-- the four words of node i: "Levels tell which is meant". On a level above the leaves' the holders, the links and the value 0; on the leaves' the
-- holders, no links and the value; else it is free: the holders, the next free node or none, 0, 0
abbrev pub four_of : ℕ → List ℕ → List ℕ → ℕ → List ℕ
four_of n rs ws i =
    cond (is_inner n ws rs i) (refcount ws i ∷ left ws i ∷ right ws i ∷ 0 ∷ [])
    (cond (is_on n ws rs i 0) (refcount ws i ∷ none ∷ none ∷ value ws i ∷ []) (refcount ws i ∷ next_free ws i ∷ 0 ∷ 0 ∷ []))

-- those of c nodes from node i on
unfoldable pub unpacked_from : ℕ → List ℕ → ℕ → List ℕ → ℕ → List ℕ
unpacked_from n rs zero ws i = []
unpacked_from n rs (suc c) ws i = four_of n rs ws i ++ unpacked_from n rs c ws (suc i)

-- those of N nodes, for n splitters and the roots rs of the live frames
unfoldable pub unpacked : ℕ → List ℕ → ℕ → List ℕ → List ℕ
unpacked n rs N ws = unpacked_from n rs N ws 0
