-- Document 01's soundness, the part on the pool: the tree at a level and a group, its nodes, and what the pool must be.
use Rattle.std.specs.Prelude.{◌≡◌, refl, ◌⊎◌, cond, length, ltb}
use Rattle.std.proofs.Common.{sym, subst, inl, inr}
use Rattle.std.proofs.Math.Path.{ap}
use mathlib.Core.List.{List, [], ◌∷◌, ◌++◌}
use Prim.Native.Nat.{ℕ, zero, suc, ◌+◌, ◌*◌, ◌≤◌, ◌<◌, ◌^◌}
use native.Mathlib.Omega.{arith}
use Rattle.std.proofs.Math.Decide.{ℕ_discrete, dec_lt}
use Rattle.words.specs.Basics.{none, sum, Chain, δ, count}
use Rattle.words.specs.Counting.{δ_same, δ_other, δ_eq, δ₀, when, count_nil, count_cons, count-append}
use Rattle.words.specs.Tests.{ltb_of, nltb_of}
use Rattle.sizes.specs.Leaves.{dbl}
use Rattle.pool.specs.Pool.{refcount, left, right, value}

-- node i is the root of a tree of level l and group g, for n splitters: "a tree of the shape above"
unfoldable pub TreeAt : ℕ → ℕ → List ℕ → ℕ → ℕ → ℕ → Type 0
TreeAt n N ws zero g i = (i < N) × (left ws i ≡ none) × (right ws i ≡ none)
TreeAt n N ws (suc l) g i =
    (i < N) × (value ws i ≡ 0) × TreeAt n N ws l (2 * g) (left ws i)
    × ((2 * g + 1) * 2 ^ l < n → TreeAt n N ws l (2 * g + 1) (right ws i)) × (n ≤ (2 * g + 1) * 2 ^ l → right ws i ≡ none)

-- its nodes, "in which a node may stand in several places"
unfoldable pub nodes_of : ℕ → List ℕ → ℕ → ℕ → ℕ → List ℕ
nodes_of n ws zero g i = i ∷ []
nodes_of n ws (suc l) g i =
    let r : List ℕ = nodes_of n ws l (2 * g + 1) (right ws i) in
    i ∷ (nodes_of n ws l (2 * g) (left ws i) ++ cond (ltb ((2 * g + 1) * 2 ^ l) n) r [])

-- the nodes of the trees of the roots E
unfoldable pub reached_nodes : ℕ → ℕ → List ℕ → List ℕ → List ℕ
reached_nodes n H ws [] = []
reached_nodes n H ws (e ∷ E) = nodes_of n ws H 0 e ++ reached_nodes n H ws E

-- how often they meet node i
abbrev pub visits : ℕ → ℕ → List ℕ → List ℕ → ℕ → ℕ
visits n H ws E i = count i (reached_nodes n H ws E)

-- the links to i from j, if j is reached
unfoldable pub reached_link : ℕ → ℕ → List ℕ → List ℕ → ℕ → ℕ → ℕ
reached_link n H ws E i j = when (visits n H ws E j) (δ i (left ws j) + δ i (right ws j))

-- "Walking from each live frame gives a tree of the shape above [..]; nodes reached have right holders; all others are free
-- and lie once on the free chain."
pub record PoolSound (N H n : ℕ) (ws : List ℕ) (free : ℕ) (fs E : List ℕ) : Type 0 where
  pub room : 4 * N ≤ length ws
  pub trees : (e : ℕ) → 0 < count e E → TreeAt n N ws H 0 e
  pub refcounts : (i : ℕ) → i < N → 0 < visits n H ws E i → refcount ws i ≡ count i E + sum N (reached_link n H ws E i)
  pub unreached : (i : ℕ) → i < N → visits n H ws E i ≡ 0 → (refcount ws i ≡ 0) × (right ws i ≡ 0) × (value ws i ≡ 0)
  pub chain : Chain (left ws) N free fs
  pub once : (i : ℕ) → i < N → count i fs ≡ δ₀ (visits n H ws E i)

-- ---- one level of a tree

-- the nodes of a tree, counted
module _ (n : ℕ) (ws : List ℕ) where
  pub nodes_leaf : (g c i : ℕ) → count i (nodes_of n ws 0 g c) ≡ δ i c
  unfolding nodes_of
  nodes_leaf g c i = omega (arith, count_cons i c [], count_nil i)

  pub nodes_two : (l g c i : ℕ) → (2 * g + 1) * 2 ^ l < n
      → count i (nodes_of n ws (suc l) g c) ≡ δ i c + count i (nodes_of n ws l (2 * g) (left ws c)) + count i (nodes_of n ws l (2 * g + 1) (right ws c))
  unfolding nodes_of
  nodes_two l g c i h =
      let A = nodes_of n ws l (2 * g) (left ws c) in
      let B = nodes_of n ws l (2 * g + 1) (right ws c) in
      rw (ltb_of h) (omega (arith, count_cons i c (A ++ B), count-append i A B))

  pub nodes_one : (l g c i : ℕ) → n ≤ (2 * g + 1) * 2 ^ l → count i (nodes_of n ws (suc l) g c) ≡ δ i c + count i (nodes_of n ws l (2 * g) (left ws c))
  unfolding nodes_of
  nodes_one l g c i h =
      let A = nodes_of n ws l (2 * g) (left ws c) in
      rw (nltb_of h) (omega (arith, count_cons i c (A ++ []), count-append i A [], count_nil i))

module _ (n N : ℕ) (ws : List ℕ) where
  pub tree_in : (l g i : ℕ) → TreeAt n N ws l g i → i < N
  unfolding TreeAt
  tree_in zero g i t = t.0
  tree_in (suc l) g i t = t.0

  pub tree-value : (l g i : ℕ) → TreeAt n N ws l g i → 0 < l → value ws i ≡ 0
  unfolding TreeAt
  tree-value zero g i t h = omega arith
  tree-value (suc l) g i t h = t.1

  pub tree-left : (l g i : ℕ) → TreeAt n N ws (suc l) g i → TreeAt n N ws l (2 * g) (left ws i)
  unfolding TreeAt
  tree-left l g i t = t.2

  pub tree-right : (l g i : ℕ) → TreeAt n N ws (suc l) g i → (2 * g + 1) * 2 ^ l < n → TreeAt n N ws l (2 * g + 1) (right ws i)
  unfolding TreeAt
  tree-right l g i t h = t.3 h

  pub tree-bare : (l g i : ℕ) → TreeAt n N ws (suc l) g i → n ≤ (2 * g + 1) * 2 ^ l → right ws i ≡ none
  unfolding TreeAt
  tree-bare l g i t h = t.4 h

  pub tree_leaf : (g i : ℕ) → TreeAt n N ws zero g i → (left ws i ≡ none) × (right ws i ≡ none)
  unfolding TreeAt
  tree_leaf g i t = (t.1, t.2)

  -- what holds of a tree that has i, if it holds where i is its root, and goes up from the left tree and from the right tree
  pub tree_cases : (P : ℕ → ℕ → ℕ → Type 0) (i : ℕ) → ((l g : ℕ) → P l g i)
      → ((l g c : ℕ) → TreeAt n N ws (suc l) g c → P l (2 * g) (left ws c) → P (suc l) g c)
      → ((l g c : ℕ) → TreeAt n N ws (suc l) g c → (2 * g + 1) * 2 ^ l < n → P l (2 * g + 1) (right ws c) → P (suc l) g c)
      → (l g c : ℕ) → TreeAt n N ws l g c → 0 < count i (nodes_of n ws l g c) → P l g c
  tree_cases P i root on_left onRight zero g c t o = subst (λ q. P zero g q) (δ_eq i c (omega (arith, nodes_leaf n ws g c i))) (root zero g)
  tree_cases P i root on_left onRight (suc l) g c t o = elim (ℕ_discrete i c) [
    | yes e ↦ subst (λ q. P (suc l) g q) e (root (suc l) g)
    | no e ↦ elim (ℕ_discrete (count i (nodes_of n ws l (2 * g) (left ws c))) 0) [
      | no a ↦ on_left l g c t (tree_cases P i root on_left onRight l (2 * g) (left ws c) (tree-left l g c t) (omega arith))
      | yes a ↦ elim (dec_lt ((2 * g + 1) * 2 ^ l) n) [
        | yes h ↦ onRight l g c t h (tree_cases P i root on_left onRight l (2 * g + 1) (right ws c) (tree-right l g c t h) (omega (arith, nodes_two n ws l g c i h, δ_other i c e)))
        | no h ↦ absurd (omega (arith, nodes_one n ws l g c i (omega arith), δ_other i c e))
      ]
    ]
  ]

  pub count_root : (l g c : ℕ) → 0 < count c (nodes_of n ws l g c)
  count_root zero g c = omega (arith, nodes_leaf n ws g c c, δ_same c)
  count_root (suc l) g c = elim (dec_lt ((2 * g + 1) * 2 ^ l) n) [
    | yes h ↦ omega (arith, nodes_two n ws l g c c h, δ_same c)
    | no h ↦ omega (arith, nodes_one n ws l g c c (omega arith), δ_same c)
  ]

  pub count_left : (l g c i : ℕ) → 0 < count i (nodes_of n ws l (2 * g) (left ws c)) → 0 < count i (nodes_of n ws (suc l) g c)
  count_left l g c i o = elim (dec_lt ((2 * g + 1) * 2 ^ l) n) [
    | yes h ↦ omega (arith, nodes_two n ws l g c i h)
    | no h ↦ omega (arith, nodes_one n ws l g c i (omega arith))
  ]

  pub count-right : (l g c i : ℕ) → (2 * g + 1) * 2 ^ l < n → 0 < count i (nodes_of n ws l (2 * g + 1) (right ws c)) → 0 < count i (nodes_of n ws (suc l) g c)
  count-right l g c i h o = omega (arith, nodes_two n ws l g c i h)

  -- a node of a tree has a place in it
  pub place : (l g c i : ℕ) → g * 2 ^ l < n → TreeAt n N ws l g c → 0 < count i (nodes_of n ws l g c) → (k : ℕ) × (d : ℕ) × (k ≤ l) × (d * 2 ^ k < n) × TreeAt n N ws k d i
  place l g c i ok t o =
      tree_cases (λ l g c. g * 2 ^ l < n → TreeAt n N ws l g c → (k : ℕ) × (d : ℕ) × (k ≤ l) × (d * 2 ^ k < n) × TreeAt n N ws k d i) i
      (λ l g ok t. (l, g, omega arith, ok, t))
      (λ l g c t r ok t'. (let w = r (omega (arith, dbl l g)) (tree-left l g c t) in (w.0, w.1, omega (arith, w.2), w.3, w.4)))
      (λ l g c t h r ok t'. (let w = r h (tree-right l g c t h) in (w.0, w.1, omega (arith, w.2), w.3, w.4)))
      l g c t o ok t

  -- it is the root, or a node of the tree links to it
  pub linked : (l g c i : ℕ) → TreeAt n N ws l g c → 0 < count i (nodes_of n ws l g c)
      → (i ≡ c) ⊎ ((j : ℕ) × (0 < count j (nodes_of n ws l g c)) × (j < N) × (0 < δ i (left ws j) + δ i (right ws j)))
  linked l g c i t o =
      tree_cases (λ l g c. (i ≡ c) ⊎ ((j : ℕ) × (0 < count j (nodes_of n ws l g c)) × (j < N) × (0 < δ i (left ws j) + δ i (right ws j)))) i
      (λ l g. inl refl)
      (λ l g c t r. inr (elim r [
        | inl e ↦ (c, count_root (suc l) g c, tree_in (suc l) g c t, omega (arith, ap (δ i) e, δ_same i))
        | inr w ↦ (w.0, count_left l g c w.0 w.1, w.2, w.3)
      ]))
      (λ l g c t h r. inr (elim r [
        | inl e ↦ (c, count_root (suc l) g c, tree_in (suc l) g c t, omega (arith, ap (δ i) e, δ_same i))
        | inr w ↦ (w.0, count-right l g c w.0 h w.1, w.2, w.3)
      ]))
      l g c t o

  -- what a node of the tree links to is a node of it
  pub tree_closed : N ≤ none → (l g c j i : ℕ) → i < N → 0 < δ i (left ws j) + δ i (right ws j) → TreeAt n N ws l g c → 0 < count j (nodes_of n ws l g c) → 0 < count i (nodes_of n ws l g c)
  tree_closed small l g c j i b k t o =
      tree_cases (λ l g c. TreeAt n N ws l g c → 0 < count i (nodes_of n ws l g c)) j
      (λ l g t. at l g t)
      (λ l g c t r t'. count_left l g c i (r (tree-left l g c t)))
      (λ l g c t h r t'. count-right l g c i h (r (tree-right l g c t h)))
      l g c t o t
    where
      at : (l g : ℕ) → TreeAt n N ws l g j → 0 < count i (nodes_of n ws l g j)
      at zero g t = absurd (omega (arith, ap (δ i) (tree_leaf g j t).0, ap (δ i) (tree_leaf g j t).1, δ_other i none (omega arith)))
      at (suc l) g t = elim (ℕ_discrete i (left ws j)) [
        | yes e ↦ count_left l g j i (subst (λ q. 0 < count q (nodes_of n ws l (2 * g) (left ws j))) (sym e) (count_root l (2 * g) (left ws j)))
        | no e ↦ (let q = δ_eq i (right ws j) (omega (arith, δ_other i (left ws j) e)) in elim (dec_lt ((2 * g + 1) * 2 ^ l) n) [
          | yes h ↦ count-right l g j i h (subst (λ q. 0 < count q (nodes_of n ws l (2 * g + 1) (right ws j))) (sym q) (count_root l (2 * g + 1) (right ws j)))
          | no h ↦ absurd (omega (arith, tree-bare l g j t (omega arith)))
        ])
      ]

  -- ---- the nodes that the trees of some roots meet

  -- a node that is met is in a root's tree, and the other way round
  pub visit_root : (H i : ℕ) (E : List ℕ) → 0 < visits n H ws E i → (e : ℕ) × (0 < count e E) × (0 < count i (nodes_of n ws H 0 e))
  unfolding reached_nodes
  visit_root H i [] p = absurd (omega (arith, count_nil i))
  visit_root H i (d ∷ E) p = elim (ℕ_discrete (count i (nodes_of n ws H 0 d)) 0) [
    | no q ↦ (d, omega (arith, count_cons d d E, δ_same d), omega arith)
    | yes q ↦ (let r = visit_root H i E (omega (arith, count-append i (nodes_of n ws H 0 d) (reached_nodes n H ws E))) in (r.0, omega (arith, r.1, count_cons r.0 d E), r.2))
  ]

  pub root_visit : (H i e : ℕ) (E : List ℕ) → 0 < count e E → 0 < count i (nodes_of n ws H 0 e) → 0 < visits n H ws E i
  unfolding reached_nodes
  root_visit H i e [] p q = absurd (omega (arith, count_nil e))
  root_visit H i e (d ∷ E) p q = elim (ℕ_discrete e d) [
    | yes r ↦ omega (arith, ap (λ c. count i (nodes_of n ws H 0 c)) r, count-append i (nodes_of n ws H 0 d) (reached_nodes n H ws E))
    | no r ↦ omega (arith, count-append i (nodes_of n ws H 0 d) (reached_nodes n H ws E), root_visit H i e E (omega (arith, count_cons e d E, δ_other e d r)) q)
  ]
