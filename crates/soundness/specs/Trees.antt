-- Document 01's paragraph "Soundness", the sentences on trees, for nodes of four words. Definitions only.
use Rattle.std.specs.Prelude.{Bool, true, false, cond, ◌||◌, ◌&&◌, List, [], ◌∷◌, ◌++◌, ℕ, zero, suc, ◌+◌, ◌*◌, ◌^◌, eqb, ltb}
use Rattle.words.specs.Basics.{none, sum, all, δ, count, follow, below}
use Rattle.sizes.specs.Sizes.{height}
use Rattle.pool.specs.Pool.{refcount, left, right, value, next_free}
use Rattle.soundness.specs.Sentence.{Sentence, says}

-- n splitters, N recorded nodes, the first free node `first`, and the roots rs of the live frames

-- "Walking from each live frame gives a tree of the shape above, in which a node may stand in several places"

-- node i is the root of a tree of level l over group g: "Inner nodes have value 0, leaves have no links." The right half of a
-- group exists if it has a splitter
unfoldable pub tree_at : ℕ → ℕ → List ℕ → ℕ → ℕ → ℕ → Bool
tree_at n N ws zero g i = ltb i N && (eqb (left ws i) none && eqb (right ws i) none)
tree_at n N ws (suc l) g i =
    ltb i N &&
    (eqb (value ws i) 0 &&
    (tree_at n N ws l (2 * g) (left ws i) &&
    elim (ltb ((2 * g + 1) * 2 ^ l) n) [ true ↦ tree_at n N ws l (2 * g + 1) (right ws i) | false ↦ eqb (right ws i) none ]))

-- the nodes of that tree, once for each place in it
unfoldable pub nodes_at : ℕ → List ℕ → ℕ → ℕ → ℕ → List ℕ
nodes_at n ws zero g i = i ∷ []
nodes_at n ws (suc l) g i =
    i ∷ (nodes_at n ws l (2 * g) (left ws i) ++ elim (ltb ((2 * g + 1) * 2 ^ l) n) [ true ↦ nodes_at n ws l (2 * g + 1) (right ws i) | false ↦ [] ])

abbrev pub trees_at : ℕ → ℕ → List ℕ → List ℕ → Bool
trees_at n N ws [] = true
trees_at n N ws (r ∷ rs) = tree_at n N ws (height n) 0 r && trees_at n N ws rs

-- the nodes of all the roots' trees
abbrev pub reached : ℕ → List ℕ → List ℕ → List ℕ
reached n ws [] = []
reached n ws (r ∷ rs) = nodes_at n ws (height n) 0 r ++ reached n ws rs

-- "nodes reached have right holders; all others are free and lie once on the free chain"

abbrev pub is_reached : ℕ → List ℕ → List ℕ → ℕ → Bool
is_reached n ws rs i = ltb 0 (count i (reached n ws rs))

-- "Holders counts links from nodes in use and from live frames."
abbrev pub holders : ℕ → ℕ → List ℕ → List ℕ → ℕ → ℕ
holders n N ws rs i = count i rs + sum N (λ j. cond (is_reached n ws rs j) (δ i (left ws j) + δ i (right ws j)) 0)

-- "A free node holds 0, the next free node or none, 0, 0."
abbrev pub is_free : List ℕ → ℕ → Bool
is_free ws i = eqb (refcount ws i) 0 && (eqb (right ws i) 0 && eqb (value ws i) 0)

-- N + 1 steps along the chain pass its end
abbrev pub free_nodes : ℕ → List ℕ → ℕ → List ℕ
free_nodes N ws first = follow (suc N) (next_free ws) first

abbrev pub node_sound : ℕ → ℕ → List ℕ → ℕ → List ℕ → ℕ → Bool
node_sound n N ws first rs i =
    (is_reached n ws rs i && (eqb (refcount ws i) (holders n N ws rs i) && eqb (count i (free_nodes N ws first)) 0)) ||
    (eqb (count i (reached n ws rs)) 0 && (is_free ws i && eqb (count i (free_nodes N ws first)) 1))

abbrev pub pool_sentences : ℕ → ℕ → List ℕ → ℕ → List ℕ → List Sentence
pool_sentences n N ws first rs =
    says "Walking from each live frame gives a tree of the shape above, in which a node may stand in several places;" (trees_at n N ws rs) ∷
    says "(the free chain is one of nodes)" (below N (free_nodes N ws first)) ∷
    says "nodes reached have right holders; all others are free and lie once on the free chain." (all N (node_sound n N ws first rs)) ∷
    []
