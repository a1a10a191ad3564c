-- R-8: the pool of nodes of two words in a lent list of words, and what is done to it. Definitions only; every one is total.
-- Beside crate pool, whose nodes have four words and which has a sentence of document 01 for each of these definitions.
use Rattle.std.specs.Prelude.{Bool, true, false, cond, List, ℕ, zero, suc, ◌+◌, ◌-◌, ◌*◌, ◌/◌, ◌%◌, get_or, set, eqb, ltb}
use Rattle.words.specs.Basics.{none, plus, times}
use Rattle.sizes.specs.Sizes.{bit, height, width}
use Rattle.pool.specs.Pool.{side}

-- ---- a node

-- "A node becomes two words: holders, then left plus 65,536 times right for inner nodes with 65,535 for none, the value for a leaf, the
-- next free node or none for a free one. Levels tell which is meant"

unfoldable pub refcount : List ℕ → ℕ → ℕ
refcount ws i = get_or ws (2 * i) 0

unfoldable pub content : List ℕ → ℕ → ℕ
content ws i = get_or ws (2 * i + 1) 0

-- a link in 16 bits: "with 65,535 for none"; and back
abbrev pub half : ℕ → ℕ
half i = cond (eqb i none) 65535 i

abbrev pub link_in : ℕ → ℕ
link_in h = cond (eqb h 65535) none h

-- the second word of an inner node: "left plus 65,536 times right"
unfoldable pub links : ℕ → ℕ → ℕ
links l r = plus (half l) (times 65536 (half r))

-- of an inner node
unfoldable pub left : List ℕ → ℕ → ℕ
left ws i = link_in (content ws i % 65536)

unfoldable pub right : List ℕ → ℕ → ℕ
right ws i = link_in (content ws i / 65536 % 65536)

-- of a leaf
abbrev pub value : List ℕ → ℕ → ℕ
value ws i = content ws i

-- of a free node
abbrev pub next_free : List ℕ → ℕ → ℕ
next_free ws i = content ws i

unfoldable pub set_node : List ℕ → ℕ → ℕ → ℕ → List ℕ
set_node ws i c w = set (set ws (2 * i) c) (2 * i + 1) w

unfoldable pub set_refcount : List ℕ → ℕ → ℕ → List ℕ
set_refcount ws i c = set ws (2 * i) c

unfoldable pub set_content : List ℕ → ℕ → ℕ → List ℕ
set_content ws i w = set ws (2 * i + 1) w

-- ---- the walk

unfoldable pub child : List ℕ → ℕ → ℕ → ℕ
child ws i b = side b (left ws i) (right ws i)

-- the child on the other side
unfoldable pub sibling : List ℕ → ℕ → ℕ → ℕ
sibling ws i b = side b (right ws i) (left ws i)

-- the leaf of splitter x under node i of level l
unfoldable pub leaf_of : ℕ → List ℕ → ℕ → ℕ → ℕ
leaf_of zero ws i x = i
leaf_of (suc l) ws i x = leaf_of l ws (child ws i (bit l x)) x

-- what the frame with this root reads at splitter x
unfoldable pub read_at : ℕ → List ℕ → ℕ → ℕ → ℕ
read_at h ws root x = value ws (leaf_of h ws root x)

-- ---- stores

unfoldable pub set_value : List ℕ → ℕ → ℕ → List ℕ
set_value ws i v = set_content ws i v

-- the link on side b
unfoldable pub set_link : List ℕ → ℕ → ℕ → ℕ → List ℕ
set_link ws i b c = set_content ws i (links (side b c (left ws i)) (side b (right ws i) c))

-- ---- reference counts

-- more than one holder
abbrev pub shared : List ℕ → ℕ → Bool
shared ws i = ltb 1 (refcount ws i)

-- one holder more; no node, no change
unfoldable pub retain : List ℕ → ℕ → List ℕ
retain ws i = cond (eqb i none) ws (set_refcount ws i (plus (refcount ws i) 1))

-- the node i at the head of the free list
abbrev pub freed : List ℕ → ℕ → ℕ → List ℕ
freed ws free i = set_node ws i 0 free

-- "To release is to lower holders by one; at zero the node is freed, then its left link is released, then its right."
-- The words, the first free node and the number of free nodes after a release of node i of level l; k nodes were free. What is none of the N
-- nodes is left alone: none, and in an unsound pool any half of a word
unfoldable pub release : ℕ → ℕ → List ℕ → ℕ → ℕ → ℕ → List ℕ × ℕ × ℕ
release N zero ws free k i =
    elim (ltb i N) [
      | true ↦ elim (eqb (refcount ws i - 1) 0) [ true ↦ (freed ws free i, i, plus k 1) | false ↦ (set_refcount ws i (refcount ws i - 1), free, k) ]
      | false ↦ (ws, free, k)
    ]
release N (suc l) ws free k i =
    elim (ltb i N) [
      | true ↦
          elim (eqb (refcount ws i - 1) 0) [
            | true ↦
                let p : List ℕ × ℕ × ℕ = release N l (freed ws free i) i (plus k 1) (left ws i) in
                release N l p.0 p.1 p.2 (right ws i)
            | false ↦ (set_refcount ws i (refcount ws i - 1), free, k)
          ]
      | false ↦ (ws, free, k)
    ]

-- ---- a write

-- a node of the new path: the next new node on side b, and on the other the kept sibling, which gains a holder
unfoldable pub path_node : List ℕ → ℕ → ℕ → ℕ → ℕ → List ℕ
path_node ws i b next kept = retain (set_node ws i 1 (links (side b next kept) (side b kept next))) kept

-- the new path to x beside the old node's siblings, from level l down, in nodes of the free list from i on; and the
-- next free node
unfoldable pub copy_path : ℕ → List ℕ → ℕ → ℕ → ℕ → ℕ → List ℕ × ℕ
copy_path zero ws i old x v = (set_node ws i 1 v, next_free ws i)
copy_path (suc l) ws i old x v =
    copy_path l (path_node ws i (bit l x) (next_free ws i) (sibling ws old (bit l x))) (next_free ws i) (child ws old (bit l x)) x v

-- the rest of the path, new, from level l down, in the place of the node old, which has one holder less then. The words and the next free
-- node; the first new node is the one that was free first
unfoldable pub renew : ℕ → List ℕ → ℕ → ℕ → ℕ → ℕ → List ℕ × ℕ
renew l ws free old x v =
    let p : List ℕ × ℕ = copy_path l ws free old x v in
    (set_refcount p.0 old (refcount p.0 old - 1), p.1)

-- on the way to x from node i of level l, with `above` above it, the first node with more holders, or else the leaf. How many nodes the
-- rest of the path has from there (none if no node is shared), this node, and the node above it
unfoldable pub first_shared : ℕ → List ℕ → ℕ → ℕ → ℕ → ℕ × ℕ × ℕ
first_shared zero ws above i x = (cond (shared ws i) 1 0, i, above)
first_shared (suc l) ws above i x = elim (shared ws i) [ true ↦ (suc (suc l), i, above) | false ↦ first_shared l ws i (child ws i (bit l x)) x ]

-- how many nodes a write to x takes
unfoldable pub rest : ℕ → List ℕ → ℕ → ℕ → ℕ
rest h ws root x = (first_shared h ws root root x).0

-- the write, where the rest of the path has r nodes, from node i on, with `above` above it. With none shared the leaf i gets the
-- value; else the rest is new, and the link to it is that of the node above, or the frame's root. k nodes were free. The words, the
-- first free node, the number of free nodes, and the frame's root afterwards
unfoldable pub write_from : ℕ → ℕ → ℕ → ℕ → List ℕ → ℕ → ℕ → ℕ → ℕ → ℕ → List ℕ × ℕ × ℕ × ℕ
write_from zero i above h ws free k root x v = (set_value ws i v, free, k, root)
write_from (suc m) i above h ws free k root x v =
    let p : List ℕ × ℕ = renew m ws free i x v in
    elim (eqb m h) [ true ↦ (p.0, p.1, k - suc m, free) | false ↦ (set_link p.0 above (bit m x) free, p.1, k - suc m, root) ]

unfoldable pub write : ℕ → List ℕ → ℕ → ℕ → ℕ → ℕ → ℕ → List ℕ × ℕ × ℕ × ℕ
write h ws free k root x v =
    let p : ℕ × ℕ × ℕ = first_shared h ws root root x in
    write_from p.0 p.1 p.2 h ws free k root x v

-- ---- the start

-- c nodes of one level, from node i on; their children begin at node `below`, of which there are k
unfoldable pub init_level : ℕ → List ℕ → ℕ → ℕ → ℕ → List ℕ
init_level zero ws i below k = ws
init_level (suc c) ws i below k =
    init_level c (set_node ws i 1 (links below (cond (ltb 1 k) (plus below 1) none))) (plus i 1) (plus below 2) (k - 2)

-- the levels from l down to 1, from node i on; and the first leaf
unfoldable pub init_inner : ℕ → List ℕ → ℕ → ℕ → List ℕ × ℕ
init_inner zero ws n i = (ws, i)
init_inner (suc l) ws n i =
    init_inner l (init_level (width n (suc l)) ws i (plus i (width n (suc l))) (width n l)) n (plus i (width n (suc l)))

-- c leaves from node i on, with the values from j on
unfoldable pub init_leaves : ℕ → List ℕ → ℕ → List ℕ → ℕ → List ℕ
init_leaves zero ws i vs j = ws
init_leaves (suc c) ws i vs j = init_leaves c (set_node ws i 1 (get_or vs j 0)) (plus i 1) vs (plus j 1)

-- c free nodes from node i on, in rising order
unfoldable pub init_free : ℕ → List ℕ → ℕ → List ℕ
init_free zero ws i = ws
init_free (suc c) ws i = init_free c (set_node ws i 0 (cond (eqb c 0) none (plus i 1))) (plus i 1)

-- "At the start the tree is numbered root first, level by level, left to right; the rest are free in rising order."
-- n splitters with the values vs, N nodes; and the first free node
unfoldable pub init_pool : List ℕ → ℕ → ℕ → List ℕ → List ℕ × ℕ
init_pool ws n N vs =
    let p : List ℕ × ℕ = init_inner (height n) ws n 0 in
    let i : ℕ = plus p.1 n in
    (init_free (N - i) (init_leaves n p.0 p.1 vs 0) i, cond (ltb i N) i none)
