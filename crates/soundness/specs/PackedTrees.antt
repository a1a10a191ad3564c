-- R-8: soundness, the sentences on trees, for nodes of two words. "Levels tell which is meant, and soundness asks that no node is reached on two
-- levels." Definitions only.
use Rattle.std.specs.Prelude.{Bool, true, false, cond, not, ◌||◌, ◌&&◌, List, [], ◌∷◌, ◌++◌, ℕ, zero, suc, ◌+◌, ◌*◌, ◌^◌, eqb, ltb, leb}
use Rattle.words.specs.Basics.{none, sum, all, some, how_many, δ, count, follow, below}
use Rattle.sizes.specs.Sizes.{height}
use Rattle.packed.specs.Pool.{refcount, left, right, next_free}
use Rattle.soundness.specs.Sentence.{Sentence, says}

-- n splitters, N recorded nodes, the first free node `first`, and the roots rs of the live frames

-- "Walking from each live frame gives a tree of the shape above, in which a node may stand in several places"

-- node i is the root of a tree of level l over group g; an inner node's word is its links, a leaf's its value, whatever it is
unfoldable pub tree_at : ℕ → ℕ → List ℕ → ℕ → ℕ → ℕ → Bool
tree_at n N ws zero g i = ltb i N
tree_at n N ws (suc l) g i =
    ltb i N &&
    (tree_at n N ws l (2 * g) (left ws i) && elim (ltb ((2 * g + 1) * 2 ^ l) n) [ true ↦ tree_at n N ws l (2 * g + 1) (right ws i) | false ↦ eqb (right ws i) none ])

-- the nodes of level k of that tree, once for each place in it
unfoldable pub nodes_on : ℕ → List ℕ → ℕ → ℕ → ℕ → ℕ → List ℕ
nodes_on n ws k zero g i = cond (eqb k 0) (i ∷ []) []
nodes_on n ws k (suc l) g i =
    elim (eqb k (suc l)) [
      | true ↦ i ∷ []
      | false ↦ nodes_on n ws k l (2 * g) (left ws i) ++ elim (ltb ((2 * g + 1) * 2 ^ l) n) [ true ↦ nodes_on n ws k l (2 * g + 1) (right ws i) | false ↦ [] ]
    ]

abbrev pub trees_at : ℕ → ℕ → List ℕ → List ℕ → Bool
trees_at n N ws [] = true
trees_at n N ws (r ∷ rs) = tree_at n N ws (height n) 0 r && trees_at n N ws rs

-- those of all the roots' trees
abbrev pub reached_on : ℕ → List ℕ → List ℕ → ℕ → List ℕ
reached_on n ws [] k = []
reached_on n ws (r ∷ rs) k = nodes_on n ws k (height n) 0 r ++ reached_on n ws rs k

-- node i is reached on level k
unfoldable pub is_on : ℕ → List ℕ → List ℕ → ℕ → ℕ → Bool
is_on n ws rs i k = ltb 0 (count i (reached_on n ws rs k))

-- on how many levels: "no node is reached on two levels"
abbrev pub levels_of : ℕ → List ℕ → List ℕ → ℕ → ℕ
levels_of n ws rs i = how_many (suc (height n)) (is_on n ws rs i)

abbrev pub is_reached : ℕ → List ℕ → List ℕ → ℕ → Bool
is_reached n ws rs i = ltb 0 (levels_of n ws rs i)

-- on a level above the leaves', so that its second word is its links
abbrev pub is_inner : ℕ → List ℕ → List ℕ → ℕ → Bool
is_inner n ws rs i = some (height n) (λ k. is_on n ws rs i (suc k))

-- "nodes reached have right holders; all others are free and lie once on the free chain"

-- "Holders counts links from nodes in use and from live frames."
abbrev pub holders : ℕ → ℕ → List ℕ → List ℕ → ℕ → ℕ
holders n N ws rs i = count i rs + sum N (λ j. cond (is_inner n ws rs j) (δ i (left ws j) + δ i (right ws j)) 0)

-- N + 1 steps along the chain pass its end
abbrev pub free_nodes : ℕ → List ℕ → ℕ → List ℕ
free_nodes N ws first = follow (suc N) (next_free ws) first

abbrev pub node_sound : ℕ → ℕ → List ℕ → ℕ → List ℕ → ℕ → Bool
node_sound n N ws first rs i =
    (is_reached n ws rs i && (eqb (refcount ws i) (holders n N ws rs i) && eqb (count i (free_nodes N ws first)) 0)) ||
    (not (is_reached n ws rs i) && (eqb (refcount ws i) 0 && eqb (count i (free_nodes N ws first)) 1))

abbrev pub pool_sentences : ℕ → ℕ → List ℕ → ℕ → List ℕ → List Sentence
pool_sentences n N ws first rs =
    says "Walking from each live frame gives a tree of the shape above, in which a node may stand in several places;" (trees_at n N ws rs) ∷
    says "no node is reached on two levels" (all N (λ i. leb (levels_of n ws rs i) 1)) ∷
    says "(the free chain is one of nodes)" (below N (free_nodes N ws first)) ∷
    says "nodes reached have right holders; all others are free and lie once on the free chain." (all N (node_sound n N ws first rs)) ∷
    []
