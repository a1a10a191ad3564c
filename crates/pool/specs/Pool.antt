-- The pool of nodes in a lent list of words, and what is done to it. Definitions only; every one is total.
-- A node's number is its place; `free` is the first node of the free list (document 01: the free chain).
use Rattle.std.specs.Prelude.{Bool, true, false, cond, List, ℕ, zero, suc, ◌+◌, ◌-◌, ◌*◌, get_or, set, eqb, ltb}
use Rattle.words.specs.Basics.{none, plus}
use Rattle.sizes.specs.Sizes.{bit, height, width}

-- ---- a node

-- document 01: "A node is four words: holders, left, right, value." The holders are the node's reference count.
unfoldable pub refcount : List ℕ → ℕ → ℕ
refcount ws i = get_or ws (4 * i) 0

unfoldable pub left : List ℕ → ℕ → ℕ
left ws i = get_or ws (4 * i + 1) 0

unfoldable pub right : List ℕ → ℕ → ℕ
right ws i = get_or ws (4 * i + 2) 0

unfoldable pub value : List ℕ → ℕ → ℕ
value ws i = get_or ws (4 * i + 3) 0

-- "A free node holds 0, the next free node or none, 0, 0."
abbrev pub next_free : List ℕ → ℕ → ℕ
next_free ws i = left ws i

unfoldable pub set_node : List ℕ → ℕ → ℕ → ℕ → ℕ → ℕ → List ℕ
set_node ws i c l r v = set (set (set (set ws (4 * i) c) (4 * i + 1) l) (4 * i + 2) r) (4 * i + 3) v

unfoldable pub set_refcount : List ℕ → ℕ → ℕ → List ℕ
set_refcount ws i c = set ws (4 * i) c

-- ---- the walk

-- left for the bit 0, right for the bit 1
unfoldable pub side {ℓ} : {A : Type ℓ} → ℕ → A → A → A
side zero l r = l
side (suc b) l r = r

unfoldable pub child : List ℕ → ℕ → ℕ → ℕ
child ws i b = side b (left ws i) (right ws i)

-- the child on the other side
unfoldable pub sibling : List ℕ → ℕ → ℕ → ℕ
sibling ws i b = side b (right ws i) (left ws i)

-- the leaf of splitter x under node i of level l: "At level l the walk to a splitter goes right where bit l − 1 of the
-- splitter number is 1."
unfoldable pub leaf_of : ℕ → List ℕ → ℕ → ℕ → ℕ
leaf_of zero ws i x = i
leaf_of (suc l) ws i x = leaf_of l ws (child ws i (bit l x)) x

-- what the frame with this root reads at splitter x
unfoldable pub read_at : ℕ → List ℕ → ℕ → ℕ → ℕ
read_at h ws root x = value ws (leaf_of h ws root x)

-- ---- stores of one word

unfoldable pub set_value : List ℕ → ℕ → ℕ → List ℕ
set_value ws i v = set ws (4 * i + 3) v

-- the link on side b
unfoldable pub set_link : List ℕ → ℕ → ℕ → ℕ → List ℕ
set_link ws i b c = set ws (side b (4 * i + 1) (4 * i + 2)) c

-- ---- reference counts

-- more than one holder
abbrev pub shared : List ℕ → ℕ → Bool
shared ws i = ltb 1 (refcount ws i)

-- one holder more; no node, no change
unfoldable pub retain : List ℕ → ℕ → List ℕ
retain ws i = cond (eqb i none) ws (set_refcount ws i (plus (refcount ws i) 1))

-- the node i at the head of the free list
abbrev pub freed : List ℕ → ℕ → ℕ → List ℕ
freed ws free i = set_node ws i 0 free 0 0

-- "To release is to lower holders by one; at zero the node is freed, then its left link is released, then its right."
-- The words, the first free node and the number of free nodes after a release of node i of level l; k nodes were free
unfoldable pub release : ℕ → List ℕ → ℕ → ℕ → ℕ → List ℕ × ℕ × ℕ
release zero ws free k i =
    elim (eqb i none) [
      | true ↦ (ws, free, k)
      | false ↦ elim (eqb (refcount ws i - 1) 0) [ true ↦ (freed ws free i, i, plus k 1) | false ↦ (set_refcount ws i (refcount ws i - 1), free, k) ]
    ]
release (suc l) ws free k i =
    elim (eqb i none) [
      | true ↦ (ws, free, k)
      | false ↦
          elim (eqb (refcount ws i - 1) 0) [
            | true ↦
                let p : List ℕ × ℕ × ℕ = release l (freed ws free i) i (plus k 1) (left ws i) in
                release l p.0 p.1 p.2 (right ws i)
            | false ↦ (set_refcount ws i (refcount ws i - 1), free, k)
          ]
    ]

-- ---- a write

-- a node of the new path: the next new node on side b, and on the other the kept sibling, which gains a holder
unfoldable pub path_node : List ℕ → ℕ → ℕ → ℕ → ℕ → List ℕ
path_node ws i b next kept = retain (set_node ws i 1 (side b next kept) (side b kept next) 0) kept

-- the new path to x beside the old node's siblings, from level l down, in nodes of the free list from i on; and the
-- next free node
unfoldable pub copy_path : ℕ → List ℕ → ℕ → ℕ → ℕ → ℕ → List ℕ × ℕ
copy_path zero ws i old x v = (set_node ws i 1 none none v, next_free ws i)
copy_path (suc l) ws i old x v =
    copy_path l (path_node ws i (bit l x) (next_free ws i) (sibling ws old (bit l x))) (next_free ws i) (child ws old (bit l x)) x v

-- document 02, R-2: "the rest of the path is new": from level l down, in the place of the node old, which has one holder less then.
-- The words and the next free node; the first new node is the one that was free first
unfoldable pub renew : ℕ → List ℕ → ℕ → ℕ → ℕ → ℕ → List ℕ × ℕ
renew l ws free old x v =
    let p : List ℕ × ℕ = copy_path l ws free old x v in
    (set_refcount p.0 old (refcount p.0 old - 1), p.1)

-- "From the root down, nodes with one holder are altered where they are; from the first with more holders the rest of the path is
-- new": on the way to x from node i of level l, with `above` above it, the first node with more holders, or else the leaf. How many
-- nodes that rest has (none if no node is shared), this node, and the node above it
unfoldable pub first_shared : ℕ → List ℕ → ℕ → ℕ → ℕ → ℕ × ℕ × ℕ
first_shared zero ws above i x = (cond (shared ws i) 1 0, i, above)
first_shared (suc l) ws above i x = elim (shared ws i) [ true ↦ (suc (suc l), i, above) | false ↦ first_shared l ws i (child ws i (bit l x)) x ]

-- how many nodes a write to x takes: those "that rest has"
unfoldable pub rest : ℕ → List ℕ → ℕ → ℕ → ℕ
rest h ws root x = (first_shared h ws root root x).0

-- the write, where the rest of the path has r nodes, from node i on, with `above` above it. With none shared the leaf i gets the
-- value; else the rest is new, and the link to it is that of the node above, or the frame's root. k nodes were free. The words, the
-- first free node, the number of free nodes, and the frame's root afterwards
unfoldable pub write_from : ℕ → ℕ → ℕ → ℕ → List ℕ → ℕ → ℕ → ℕ → ℕ → ℕ → List ℕ × ℕ × ℕ × ℕ
write_from zero i above h ws free k root x v = (set_value ws i v, free, k, root)
write_from (suc m) i above h ws free k root x v =
    let p : List ℕ × ℕ = renew m ws free i x v in
    elim (eqb m h) [ true ↦ (p.0, p.1, k - suc m, free) | false ↦ (set_link p.0 above (bit m x) free, p.1, k - suc m, root) ]

unfoldable pub write : ℕ → List ℕ → ℕ → ℕ → ℕ → ℕ → ℕ → List ℕ × ℕ × ℕ × ℕ
write h ws free k root x v =
    let p : ℕ × ℕ × ℕ = first_shared h ws root root x in
    write_from p.0 p.1 p.2 h ws free k root x v

-- ---- the start

-- c nodes of one level, from node i on; their children begin at node `below`, of which there are k
unfoldable pub init_level : ℕ → List ℕ → ℕ → ℕ → ℕ → List ℕ
init_level zero ws i below k = ws
init_level (suc c) ws i below k =
    init_level c (set_node ws i 1 below (cond (ltb 1 k) (plus below 1) none) 0) (plus i 1) (plus below 2) (k - 2)

-- the levels from l down to 1, from node i on; and the first leaf
unfoldable pub init_inner : ℕ → List ℕ → ℕ → ℕ → List ℕ × ℕ
init_inner zero ws n i = (ws, i)
init_inner (suc l) ws n i =
    init_inner l (init_level (width n (suc l)) ws i (plus i (width n (suc l))) (width n l)) n (plus i (width n (suc l)))

-- c leaves from node i on, with the values from j on
unfoldable pub init_leaves : ℕ → List ℕ → ℕ → List ℕ → ℕ → List ℕ
init_leaves zero ws i vs j = ws
init_leaves (suc c) ws i vs j = init_leaves c (set_node ws i 1 none none (get_or vs j 0)) (plus i 1) vs (plus j 1)

-- c free nodes from node i on, in rising order
unfoldable pub init_free : ℕ → List ℕ → ℕ → List ℕ
init_free zero ws i = ws
init_free (suc c) ws i = init_free c (set_node ws i 0 (cond (eqb c 0) none (plus i 1)) 0 0) (plus i 1)

-- "At the start the tree is numbered root first, level by level, left to right; the rest are free in rising order."
-- n splitters with the values vs, N nodes; and the first free node
unfoldable pub init_pool : List ℕ → ℕ → ℕ → List ℕ → List ℕ × ℕ
init_pool ws n N vs =
    let p : List ℕ × ℕ = init_inner (height n) ws n 0 in
    let i : ℕ = plus p.1 n in
    (init_free (N - i) (init_leaves n p.0 p.1 vs 0) i, cond (ltb i N) i none)
