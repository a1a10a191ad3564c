-- Trees by level and number of splitters: their nodes level by level, and that a node stands over as many splitters in all places of a level.
use Rattle.std.specs.Prelude.{◌≡◌, refl, ◌≢◌, Bool, true, false, cond, ◌&&◌, eqb, ltb}
use Rattle.std.proofs.Common.{sym, ap, ◌∙◌, inl, inr, arith}
use mathlib.Core.List.{List, [], ◌∷◌, ◌++◌}
use Prim.Native.Nat.{ℕ, zero, suc, ◌+◌, ◌-◌, ◌*◌, ◌^◌, ◌≤◌, ◌<◌, min}
use Rattle.std.proofs.Math.Decide.{ℕ_discrete}
use borrow.Author.Tests.{eq-eqb, ne_eqb, eqb-true}
use Rattle.words.specs.Basics.{none, δ, count}
use Rattle.words.specs.Counting.{count_nil, count_cons, count-append}
use Rattle.words.specs.Tests.{decided, both, lt_of, ltb_of, true≢false}
use Rattle.sizes.specs.Leaves.{leaves, leaves-left, leaves-right, leaves-some, leaves_none}
use Rattle.packed.specs.Pool.{left, right}
use Rattle.soundness.specs.PackedTrees.{tree_at, nodes_on}
use Rattle.pool_check.specs.Theory.Shape.{Fits, fits-left, fits-right}

-- node i is the root of a tree of level l over k splitters
unfoldable pub tree : ℕ → List ℕ → ℕ → ℕ → ℕ → Bool
tree N ws zero k i = ltb i N
tree N ws (suc l) k i =
    ltb i N &&
    (tree N ws l (min k (2 ^ l)) (left ws i) && elim (eqb (k - 2 ^ l) 0) [ true ↦ eqb (right ws i) none | false ↦ tree N ws l (k - 2 ^ l) (right ws i) ])

-- its nodes of level j, once for each place in it
unfoldable pub nodes : List ℕ → ℕ → ℕ → ℕ → ℕ → List ℕ
nodes ws j zero k i = cond (eqb j 0) (i ∷ []) []
nodes ws j (suc l) k i =
    elim (eqb j (suc l)) [
      | true ↦ i ∷ []
      | false ↦ nodes ws j l (min k (2 ^ l)) (left ws i) ++ elim (eqb (k - 2 ^ l) 0) [ true ↦ [] | false ↦ nodes ws j l (k - 2 ^ l) (right ws i) ]
    ]

-- ---- these are the trees of the definition

-- a group's right half is empty if it has no splitter
right_empty : (n l g k : ℕ) → k ≡ leaves n (suc l) g → ltb ((2 * g + 1) * 2 ^ l) n ≡ false → eqb (k - 2 ^ l) 0 ≡ true
right_empty n l g k e h = eq-eqb (k - 2 ^ l) 0 (omega (arith, ap (λ (q : ℕ). q - 2 ^ l) e, leaves-right n l g, leaves_none n l (2 * g + 1) (λ b. true≢false (sym (ltb_of b) ∙ h))))

right-some : (n l g k : ℕ) → k ≡ leaves n (suc l) g → ltb ((2 * g + 1) * 2 ^ l) n ≡ true → eqb (k - 2 ^ l) 0 ≡ false
right-some n l g k e h = ne_eqb (k - 2 ^ l) 0 (omega (arith, ap (λ (q : ℕ). q - 2 ^ l) e, leaves-right n l g, leaves-some n l (2 * g + 1) (lt_of h)))

module _ (n l g k : ℕ) (e : k ≡ leaves n (suc l) g) where
  left_part : min k (2 ^ l) ≡ leaves n l (2 * g)
  left_part = ap (λ (q : ℕ). min q (2 ^ l)) e ∙ leaves-left n l g

  right_part : k - 2 ^ l ≡ leaves n l (2 * g + 1)
  right_part = ap (λ (q : ℕ). q - 2 ^ l) e ∙ leaves-right n l g

pub tree_is : (n N : ℕ) (ws : List ℕ) (l g k i : ℕ) → k ≡ leaves n l g → tree N ws l k i ≡ tree_at n N ws l g i
unfolding tree tree_at
tree_is n N ws zero g k i e = refl
tree_is n N ws (suc l) g k i e =
    rw (tree_is n N ws l (2 * g) (min k (2 ^ l)) (left ws i) (left_part n l g k e))
    (elim (decided (ltb ((2 * g + 1) * 2 ^ l) n)) [
      | inl h ↦ rw (h, right-some n l g k e h, tree_is n N ws l (2 * g + 1) (k - 2 ^ l) (right ws i) (right_part n l g k e))
      | inr h ↦ rw (h, right_empty n l g k e h)
    ])

-- the nodes of its root's level, and of the levels below it
module _ (ws : List ℕ) (j l k i : ℕ) where
  nodes-top : j ≡ suc l → nodes ws j (suc l) k i ≡ i ∷ []
  unfolding nodes
  nodes-top e = rw (eq-eqb j (suc l) e, nodes)

  nodes_deep : j ≢ suc l → nodes ws j (suc l) k i ≡ nodes ws j l (min k (2 ^ l)) (left ws i) ++ elim (eqb (k - 2 ^ l) 0) [ true ↦ [] | false ↦ nodes ws j l (k - 2 ^ l) (right ws i) ]
  unfolding nodes
  nodes_deep e = rw (ne_eqb j (suc l) e, nodes)

module _ (n : ℕ) (ws : List ℕ) (j l g i : ℕ) where
  on_top : j ≡ suc l → nodes_on n ws j (suc l) g i ≡ i ∷ []
  unfolding nodes_on
  on_top e = rw (eq-eqb j (suc l) e, nodes_on)

  on_deep : j ≢ suc l → nodes_on n ws j (suc l) g i ≡ nodes_on n ws j l (2 * g) (left ws i) ++ elim (ltb ((2 * g + 1) * 2 ^ l) n) [ true ↦ nodes_on n ws j l (2 * g + 1) (right ws i) | false ↦ [] ]
  unfolding nodes_on
  on_deep e = rw (ne_eqb j (suc l) e, nodes_on)

pub nodes_is : (n : ℕ) (ws : List ℕ) (j l g k i : ℕ) → k ≡ leaves n l g → nodes ws j l k i ≡ nodes_on n ws j l g i
unfolding nodes nodes_on
nodes_is n ws j zero g k i e = refl
nodes_is n ws j (suc l) g k i e = elim (ℕ_discrete j (suc l)) [
  | yes h ↦ nodes-top ws j l k i h ∙ sym (on_top n ws j l g i h)
  | no h ↦
      rw (nodes_deep ws j l k i h, on_deep n ws j l g i h, nodes_is n ws j l (2 * g) (min k (2 ^ l)) (left ws i) (left_part n l g k e))
      (elim (decided (ltb ((2 * g + 1) * 2 ^ l) n)) [
        | inl q ↦ rw (q, right-some n l g k e q, nodes_is n ws j l (2 * g + 1) (k - 2 ^ l) (right ws i) (right_part n l g k e))
        | inr q ↦ rw (q, right_empty n l g k e q)
      ])
]

-- ---- a tree taken apart

module _ (N : ℕ) (ws : List ℕ) (k i : ℕ) where
  pub tree-node : (l : ℕ) → tree N ws l k i ≡ true → i < N
  unfolding tree
  tree-node zero t = lt_of t
  tree-node (suc l) t = lt_of (both (ltb i N) _ t).0

  module _ (l : ℕ) (t : tree N ws (suc l) k i ≡ true) where
    halves : (tree N ws l (min k (2 ^ l)) (left ws i) ≡ true) × (elim (eqb (k - 2 ^ l) 0) [ true ↦ eqb (right ws i) none | false ↦ tree N ws l (k - 2 ^ l) (right ws i) ] ≡ true)
    unfolding tree
    halves = both (tree N ws l (min k (2 ^ l)) (left ws i)) _ (both (ltb i N) _ t).1

    pub tree-left : tree N ws l (min k (2 ^ l)) (left ws i) ≡ true
    tree-left = halves.0

    pub tree_end : k - 2 ^ l ≡ 0 → right ws i ≡ none
    tree_end e = eqb-true (right ws i) none (rw (eq-eqb (k - 2 ^ l) 0 e) at halves.1)

    pub tree-right : (k - 2 ^ l ≡ 0 → ⊥) → tree N ws l (k - 2 ^ l) (right ws i) ≡ true
    tree-right e = rw (ne_eqb (k - 2 ^ l) 0 e) at halves.1

-- ---- and put together

module _ (N : ℕ) (ws : List ℕ) (k i : ℕ) (b : i < N) where
  pub leaf_tree : tree N ws 0 k i ≡ true
  unfolding tree
  leaf_tree = ltb_of b

  module _ (l : ℕ) (t : tree N ws l (min k (2 ^ l)) (left ws i) ≡ true) where
    pub end_tree : k - 2 ^ l ≡ 0 → eqb (right ws i) none ≡ true → tree N ws (suc l) k i ≡ true
    unfolding tree
    end_tree e h = rw (ltb_of b, t, eq-eqb (k - 2 ^ l) 0 e) h

    pub inner-tree : (k - 2 ^ l ≡ 0 → ⊥) → tree N ws l (k - 2 ^ l) (right ws i) ≡ true → tree N ws (suc l) k i ≡ true
    unfolding tree
    inner-tree e h = rw (ltb_of b, t, ne_eqb (k - 2 ^ l) 0 e) h

-- ---- how often a node stands on a level

-- how often node x is the root i of a tree of level l, on level j
unfoldable pub at_root : ℕ → ℕ → ℕ → ℕ → ℕ
at_root j l x i = cond (eqb j l) (δ x i) 0

pub root_on : (j l x i : ℕ) → j ≡ l → at_root j l x i ≡ δ x i
unfolding at_root
root_on j l x i e = rw (eq-eqb j l e)

pub root_off : (j l x i : ℕ) → j ≢ l → at_root j l x i ≡ 0
unfolding at_root
root_off j l x i e = rw (ne_eqb j l e)

pub root_none : (j l x i : ℕ) → δ x i ≡ 0 → at_root j l x i ≡ 0
root_none j l x i e = elim (ℕ_discrete j l) [ yes h ↦ root_on j l x i h ∙ e | no h ↦ root_off j l x i h ]

-- no nodes above the root's level
pub nodes-above : (ws : List ℕ) (j l k i : ℕ) → l < j → nodes ws j l k i ≡ []
unfolding nodes
nodes-above ws j zero k i h = rw (ne_eqb j 0 (omega arith), nodes)
nodes-above ws j (suc l) k i h =
    rw (nodes_deep ws j l k i (omega arith), nodes-above ws j l (min k (2 ^ l)) (left ws i) (omega arith))
    (elim (decided (eqb (k - 2 ^ l) 0)) [ inl e ↦ rw e | inr e ↦ rw e (nodes-above ws j l (k - 2 ^ l) (right ws i) (omega arith)) ])

module _ (ws : List ℕ) (j x k i : ℕ) where
  pub leaf_count : count x (nodes ws j 0 k i) ≡ at_root j 0 x i
  unfolding nodes
  leaf_count = elim (ℕ_discrete j 0) [
    | yes e ↦ rw (eq-eqb j 0 e, nodes) (omega (arith, count_cons x i [], count_nil x, root_on j 0 x i e))
    | no e ↦ rw (ne_eqb j 0 e, nodes) (omega (arith, count_nil x, root_off j 0 x i e))
  ]

  -- the root and its children's trees
  top_count : (l : ℕ) → j ≡ suc l → count x (nodes ws j (suc l) k i) ≡ at_root j (suc l) x i
  top_count l e = omega (arith, ap (count x) (nodes-top ws j l k i e), count_cons x i [], count_nil x, root_on j (suc l) x i e)

  none_above : (l k' a : ℕ) → j ≡ suc l → count x (nodes ws j l k' a) ≡ 0
  none_above l k' a e = ap (count x) (nodes-above ws j l k' a (omega arith)) ∙ count_nil x

  pub end_count : (l : ℕ) → k - 2 ^ l ≡ 0 → count x (nodes ws j (suc l) k i) ≡ at_root j (suc l) x i + count x (nodes ws j l (min k (2 ^ l)) (left ws i))
  end_count l z = elim (ℕ_discrete j (suc l)) [
    | yes e ↦ omega (arith, top_count l e, none_above l (min k (2 ^ l)) (left ws i) e)
    | no e ↦ rw (nodes_deep ws j l k i e, eq-eqb (k - 2 ^ l) 0 z) (omega (arith, count-append x (nodes ws j l (min k (2 ^ l)) (left ws i)) [], count_nil x, root_off j (suc l) x i e))
  ]

  pub inner-count : (l : ℕ) → (k - 2 ^ l ≡ 0 → ⊥)
      → count x (nodes ws j (suc l) k i) ≡ at_root j (suc l) x i + (count x (nodes ws j l (min k (2 ^ l)) (left ws i)) + count x (nodes ws j l (k - 2 ^ l) (right ws i)))
  inner-count l z = elim (ℕ_discrete j (suc l)) [
    | yes e ↦ omega (arith, top_count l e, none_above l (min k (2 ^ l)) (left ws i) e, none_above l (k - 2 ^ l) (right ws i) e)
    | no e ↦ rw (nodes_deep ws j l k i e, ne_eqb (k - 2 ^ l) 0 z)
        (omega (arith, count-append x (nodes ws j l (min k (2 ^ l)) (left ws i)) (nodes ws j l (k - 2 ^ l) (right ws i)), root_off j (suc l) x i e))
  ]

-- ---- on a level a node stands over one number of splitters

-- a link that is none leads to no tree
none-tree : (N : ℕ) (ws : List ℕ) (l k j : ℕ) → N ≤ 16384 → j ≡ none → tree N ws l k j ≡ true → ⊥
none-tree N ws l k j few e t = omega (arith, tree-node N ws k j l t)

module _ (n N : ℕ) (ws : List ℕ) (few : N ≤ 16384) where
  pub unique : (l k k' i : ℕ) → Fits n l k → Fits n l k' → tree N ws l k i ≡ true → tree N ws l k' i ≡ true → k ≡ k'
  unique zero k k' i f f' t t' = omega (arith, f.some, f.most, f.covered, f'.some, f'.most, f'.covered)
  unique (suc l) k k' i f f' t t' =
      let L = unique l (min k (2 ^ l)) (min k' (2 ^ l)) (left ws i) (fits-left n l k f) (fits-left n l k' f') (tree-left N ws k i l t) (tree-left N ws k' i l t') in
      elim (ℕ_discrete (k - 2 ^ l) 0) [
        | yes e ↦ elim (ℕ_discrete (k' - 2 ^ l) 0) [
          | yes e' ↦ omega (arith, L)
          | no e' ↦ absurd (none-tree N ws l (k' - 2 ^ l) (right ws i) few (tree_end N ws k i l t e) (tree-right N ws k' i l t' e'))
        ]
        | no e ↦ elim (ℕ_discrete (k' - 2 ^ l) 0) [
          | yes e' ↦ absurd (none-tree N ws l (k - 2 ^ l) (right ws i) few (tree_end N ws k' i l t' e') (tree-right N ws k i l t e))
          | no e' ↦ (
              let R = unique l (k - 2 ^ l) (k' - 2 ^ l) (right ws i) (fits-right n l k f e) (fits-right n l k' f' e') (tree-right N ws k i l t e) (tree-right N ws k' i l t' e') in
              omega (arith, R))
        ]
      ]
