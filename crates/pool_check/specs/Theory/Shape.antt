-- Trees by level and number of splitters, and that a node is the root of one such tree at most.
use Rattle.std.specs.Prelude.{◌≡◌, Bool, true, false, ◌&&◌, List, [], ◌∷◌, ◌++◌, eqb, ltb}
use Rattle.std.proofs.Math.Path.{refl}
use Rattle.std.proofs.Common.{sym, ap, ◌∙◌, inl, inr, arith, pow_pos}
use Prim.Native.Nat.{ℕ, zero, suc, ◌+◌, ◌-◌, ◌*◌, ◌^◌, ◌≤◌, ◌<◌, min}
use Rattle.std.proofs.Math.Decide.{ℕ_discrete}
use borrow.Author.Tests.{eq-eqb, ne_eqb, eqb-true}
use Rattle.words.specs.Basics.{none}
use Rattle.words.specs.Tests.{decided, both, lt_of, ltb_of, true≢false}
use Rattle.sizes.specs.Leaves.{leaves, leaves-left, leaves-right, leaves-some, leaves_none}
use Rattle.pool.specs.Pool.{left, right, value}
use Rattle.soundness.specs.Trees.{tree_at, nodes_at}
use Rattle.pool_check.specs.FourWords.{shaped}

-- node i is the root of a tree of level l over k splitters
unfoldable pub tree : ℕ → List ℕ → ℕ → ℕ → ℕ → Bool
tree N ws zero k i = ltb i N && (eqb (left ws i) none && eqb (right ws i) none)
tree N ws (suc l) k i =
    ltb i N &&
    (eqb (value ws i) 0 &&
    (tree N ws l (min k (2 ^ l)) (left ws i) &&
    elim (eqb (k - 2 ^ l) 0) [ true ↦ eqb (right ws i) none | false ↦ tree N ws l (k - 2 ^ l) (right ws i) ]))

-- its nodes, once for each place in it
unfoldable pub nodes : List ℕ → ℕ → ℕ → ℕ → List ℕ
nodes ws zero k i = i ∷ []
nodes ws (suc l) k i =
    i ∷ (nodes ws l (min k (2 ^ l)) (left ws i) ++ elim (eqb (k - 2 ^ l) 0) [ true ↦ [] | false ↦ nodes ws l (k - 2 ^ l) (right ws i) ])

-- ---- these are the trees of the definition

-- a group's right half is empty if it has no splitter
right_empty : (n l g k : ℕ) → k ≡ leaves n (suc l) g → ltb ((2 * g + 1) * 2 ^ l) n ≡ false → eqb (k - 2 ^ l) 0 ≡ true
right_empty n l g k e h = eq-eqb (k - 2 ^ l) 0 (omega (arith, ap (λ (q : ℕ). q - 2 ^ l) e, leaves-right n l g, leaves_none n l (2 * g + 1) (λ b. true≢false (sym (ltb_of b) ∙ h))))

right-some : (n l g k : ℕ) → k ≡ leaves n (suc l) g → ltb ((2 * g + 1) * 2 ^ l) n ≡ true → eqb (k - 2 ^ l) 0 ≡ false
right-some n l g k e h = ne_eqb (k - 2 ^ l) 0 (omega (arith, ap (λ (q : ℕ). q - 2 ^ l) e, leaves-right n l g, leaves-some n l (2 * g + 1) (lt_of h)))

module _ (n l g k : ℕ) (e : k ≡ leaves n (suc l) g) where
  left_part : min k (2 ^ l) ≡ leaves n l (2 * g)
  left_part = ap (λ (q : ℕ). min q (2 ^ l)) e ∙ leaves-left n l g

  right_part : k - 2 ^ l ≡ leaves n l (2 * g + 1)
  right_part = ap (λ (q : ℕ). q - 2 ^ l) e ∙ leaves-right n l g

pub tree_is : (n N : ℕ) (ws : List ℕ) (l g k i : ℕ) → k ≡ leaves n l g → tree N ws l k i ≡ tree_at n N ws l g i
unfolding tree tree_at
tree_is n N ws zero g k i e = refl
tree_is n N ws (suc l) g k i e =
    rw (tree_is n N ws l (2 * g) (min k (2 ^ l)) (left ws i) (left_part n l g k e))
    (elim (decided (ltb ((2 * g + 1) * 2 ^ l) n)) [
      | inl h ↦ rw (h, right-some n l g k e h, tree_is n N ws l (2 * g + 1) (k - 2 ^ l) (right ws i) (right_part n l g k e))
      | inr h ↦ rw (h, right_empty n l g k e h)
    ])

pub nodes_is : (n : ℕ) (ws : List ℕ) (l g k i : ℕ) → k ≡ leaves n l g → nodes ws l k i ≡ nodes_at n ws l g i
unfolding nodes nodes_at
nodes_is n ws zero g k i e = refl
nodes_is n ws (suc l) g k i e =
    rw (nodes_is n ws l (2 * g) (min k (2 ^ l)) (left ws i) (left_part n l g k e))
    (elim (decided (ltb ((2 * g + 1) * 2 ^ l) n)) [
      | inl h ↦ rw (h, right-some n l g k e h, nodes_is n ws l (2 * g + 1) (k - 2 ^ l) (right ws i) (right_part n l g k e))
      | inr h ↦ rw (h, right_empty n l g k e h)
    ])

-- ---- a tree taken apart

module _ (N : ℕ) (ws : List ℕ) (k i : ℕ) where
  pub tree-node : (l : ℕ) → tree N ws l k i ≡ true → i < N
  unfolding tree
  tree-node zero t = lt_of (both (ltb i N) _ t).0
  tree-node (suc l) t = lt_of (both (ltb i N) _ t).0

  pub tree-shaped : (l : ℕ) → tree N ws l k i ≡ true → shaped ws l i ≡ true
  unfolding tree
  tree-shaped zero t = (both (ltb i N) _ t).1
  tree-shaped (suc l) t = (both (eqb (value ws i) 0) _ (both (ltb i N) _ t).1).0

  module _ (l : ℕ) (t : tree N ws (suc l) k i ≡ true) where
    halves : (tree N ws l (min k (2 ^ l)) (left ws i) ≡ true) × (elim (eqb (k - 2 ^ l) 0) [ true ↦ eqb (right ws i) none | false ↦ tree N ws l (k - 2 ^ l) (right ws i) ] ≡ true)
    unfolding tree
    halves = both (tree N ws l (min k (2 ^ l)) (left ws i)) _ (both (eqb (value ws i) 0) _ (both (ltb i N) _ t).1).1

    pub tree-left : tree N ws l (min k (2 ^ l)) (left ws i) ≡ true
    tree-left = halves.0

    pub tree_end : k - 2 ^ l ≡ 0 → right ws i ≡ none
    tree_end e = eqb-true (right ws i) none (rw (eq-eqb (k - 2 ^ l) 0 e) at halves.1)

    pub tree-right : (k - 2 ^ l ≡ 0 → ⊥) → tree N ws l (k - 2 ^ l) (right ws i) ≡ true
    tree-right e = rw (ne_eqb (k - 2 ^ l) 0 e) at halves.1

-- ---- and put together

module _ (N : ℕ) (ws : List ℕ) (k i : ℕ) (b : i < N) where
  pub leaf_tree : shaped ws 0 i ≡ true → tree N ws 0 k i ≡ true
  unfolding tree
  leaf_tree t = rw (ltb_of b) t

  module _ (l : ℕ) (s : shaped ws (suc l) i ≡ true) (t : tree N ws l (min k (2 ^ l)) (left ws i) ≡ true) where
    pub end_tree : k - 2 ^ l ≡ 0 → eqb (right ws i) none ≡ true → tree N ws (suc l) k i ≡ true
    unfolding tree
    end_tree e h = rw (ltb_of b, s, t, eq-eqb (k - 2 ^ l) 0 e) h

    pub inner-tree : (k - 2 ^ l ≡ 0 → ⊥) → tree N ws l (k - 2 ^ l) (right ws i) ≡ true → tree N ws (suc l) k i ≡ true
    unfolding tree
    inner-tree e h = rw (ltb_of b, s, t, ne_eqb (k - 2 ^ l) 0 e) h

module _ (ws : List ℕ) (k i : ℕ) where
  pub leaf_nodes : nodes ws 0 k i ≡ i ∷ ([] ++ [])
  unfolding nodes
  leaf_nodes = refl

  pub end_nodes : (l : ℕ) → k - 2 ^ l ≡ 0 → nodes ws (suc l) k i ≡ i ∷ (nodes ws l (min k (2 ^ l)) (left ws i) ++ [])
  unfolding nodes
  end_nodes l e = rw (eq-eqb (k - 2 ^ l) 0 e)

  pub inner-nodes : (l : ℕ) → (k - 2 ^ l ≡ 0 → ⊥) → nodes ws (suc l) k i ≡ i ∷ (nodes ws l (min k (2 ^ l)) (left ws i) ++ nodes ws l (k - 2 ^ l) (right ws i))
  unfolding nodes
  inner-nodes l e = rw (ne_eqb (k - 2 ^ l) 0 e)

-- ---- the numbers of splitters that occur

-- k of n splitters, under a node of level l. It is 0 only if n is
pub record Fits (n l k : ℕ) : Type 0 where
  pub some : min 1 n ≤ k
  pub most : k ≤ n
  pub covered : k ≤ 2 ^ l

module _ (n l k : ℕ) (f : Fits n (suc l) k) where
  pub fits-left : Fits n l (min k (2 ^ l))
  fits-left = record { some = omega (arith, f.some, pow_pos l); most = omega (arith, f.most); covered = omega arith }

  pub fits-right : (k - 2 ^ l ≡ 0 → ⊥) → Fits n l (k - 2 ^ l)
  fits-right e = record { some = omega arith; most = omega (arith, f.most); covered = omega (arith, f.covered) }

-- ---- a node is the root of one tree at most

-- a link that is none leads to no tree
none-tree : (N : ℕ) (ws : List ℕ) (l k j : ℕ) → N ≤ 16384 → j ≡ none → tree N ws l k j ≡ true → ⊥
none-tree N ws l k j few e t = omega (arith, tree-node N ws k j l t)

-- a leaf has no left child
leaf_left : (N : ℕ) (ws : List ℕ) (k i : ℕ) → tree N ws 0 k i ≡ true → left ws i ≡ none
leaf_left N ws k i t = eqb-true (left ws i) none (both (eqb (left ws i) none) (eqb (right ws i) none) (tree-shaped N ws k i 0 t)).0

module _ (n N : ℕ) (ws : List ℕ) (few : N ≤ 16384) where
  pub unique : (l k l' k' i : ℕ) → Fits n l k → Fits n l' k' → tree N ws l k i ≡ true → tree N ws l' k' i ≡ true → (l ≡ l') × (k ≡ k')
  unique zero k zero k' i f f' t t' = (refl, omega (arith, f.some, f.most, f.covered, f'.some, f'.most, f'.covered))
  unique zero k (suc l') k' i f f' t t' = absurd (none-tree N ws l' (min k' (2 ^ l')) (left ws i) few (leaf_left N ws k i t) (tree-left N ws k' i l' t'))
  unique (suc l) k zero k' i f f' t t' = absurd (none-tree N ws l (min k (2 ^ l)) (left ws i) few (leaf_left N ws k' i t') (tree-left N ws k i l t))
  unique (suc l) k (suc l') k' i f f' t t' =
      let L = unique l (min k (2 ^ l)) l' (min k' (2 ^ l')) (left ws i) (fits-left n l k f) (fits-left n l' k' f') (tree-left N ws k i l t) (tree-left N ws k' i l' t') in
      let p : 2 ^ l ≡ 2 ^ l' = ap (λ (q : ℕ). 2 ^ q) L.0 in
      elim (ℕ_discrete (k - 2 ^ l) 0) [
        | yes e ↦ elim (ℕ_discrete (k' - 2 ^ l') 0) [
          | yes e' ↦ (ap suc L.0, omega (arith, L.1))
          | no e' ↦ absurd (none-tree N ws l' (k' - 2 ^ l') (right ws i) few (tree_end N ws k i l t e) (tree-right N ws k' i l' t' e'))
        ]
        | no e ↦ elim (ℕ_discrete (k' - 2 ^ l') 0) [
          | yes e' ↦ absurd (none-tree N ws l (k - 2 ^ l) (right ws i) few (tree_end N ws k' i l' t' e') (tree-right N ws k i l t e))
          | no e' ↦ (
              let R = unique l (k - 2 ^ l) l' (k' - 2 ^ l') (right ws i) (fits-right n l k f e) (fits-right n l' k' f' e') (tree-right N ws k i l t e) (tree-right N ws k' i l' t' e') in
              (ap suc L.0, omega (arith, R.1)))
        ]
      ]
