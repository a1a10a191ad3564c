-- The pool at the start is live, and shared as histories of no writes say. "At the start the tree is numbered root first,
-- level by level, left to right; the rest are free in rising order."
use Rattle.std.specs.Prelude.{◌≡◌, cond, length, ltb}
use Rattle.std.proofs.Math.Path.{refl, ap, subst}
use Rattle.std.proofs.Common.{sym, ◌∙◌, inl, div-mul-le_self, div-one, mul-le-mul_right, shr-shr}
use mathlib.Core.List.Memᴰ.{eq_of_singleton}
use mathlib.Core.List.{List, [], ◌∷◌}
use Prim.Native.Nat.{ℕ, zero, suc, ◌+◌, ◌-◌, ◌*◌, ◌≤◌, ◌<◌, ◌^◌, ◌/◌, ◌%◌}
use native.Mathlib.Omega.{arith}
use Rattle.std.proofs.Math.Decide.{ℕ_discrete, dec_lt, dec_le}
use Rattle.std.proofs.Math.Nat.{div-eq_of_lt}
use Rattle.words.specs.Basics.{none, Chain, δ, count}
use Rattle.words.specs.Counting.{δ_same, δ_other, δ_eq, δ₀_zero, δ₀_pos, count_nil, count_cons, sum_zero, sum_one, range, count-range_out, count-range_in}
use Rattle.words.specs.Tests.{ltb_of, nltb_of}
use Rattle.sizes.specs.Leaves.{leaves, dbl, leaves-left, leaves-right, leaves-some, leaves_none, leaves-top, leaves_leaf}
use Rattle.sizes.specs.Numbering.{first, nodes_to, level_of, first-top, first_lt, id_lt, id_inj, id_of, level_is}
use Rattle.sizes.specs.Sizes.{width, bit}
use Rattle.sizes.specs.Widths.{width_in, in_width, width_one}
use Rattle.model.specs.History.{last_write}
use Rattle.pool.specs.Pool.{refcount, left, right, value, side, child, read_at}
use Rattle.pool.specs.Theory.Invariant.{NodeAt, Links, link, indegree, node_right_at, none_right_at, link_pos, link_inv}
use Rattle.pool.specs.Theory.Nodes.{NodeIs}
use Rattle.pool.specs.Theory.Operations.{Live}
use Rattle.pool.specs.Theory.Sharing.{Frame, Share}
use Rattle.pool.specs.Theory.Walk.{walk, walk_go, walk_here, read_at-walk}

-- the node of level l and group g
abbrev pub node : ℕ → ℕ → ℕ → ℕ → ℕ
node n H l g = first n H l + g

-- node i of N, or none past the last
abbrev pub or_none : ℕ → ℕ → ℕ
or_none N i = cond (ltb i N) i none

pub record Start (N H n : ℕ) (values : ℕ → ℕ) (ws : List ℕ) (free : ℕ) : Type 0 where
  pub room : 4 * N ≤ length ws
  pub fits : nodes_to n H ≤ N
  pub inner : (l g : ℕ) → l < H → g * 2 ^ suc l < n → NodeIs ws (node n H (suc l) g) 1 (node n H l (2 * g)) (cond (ltb ((2 * g + 1) * 2 ^ l) n) (node n H l (2 * g + 1)) none) 0
  pub leaf : (g : ℕ) → g < n → NodeIs ws (node n H 0 g) 1 none none (values g)
  pub rest : (i : ℕ) → nodes_to n H ≤ i → i < N → NodeIs ws i 0 (or_none N (suc i)) 0 0
  pub head : free ≡ or_none N (nodes_to n H)

or_none_in : (N i : ℕ) → i < N → or_none N i ≡ i
or_none_in N i h = rw (ltb_of h)

or_none_out : (N i : ℕ) → N ≤ i → or_none N i ≡ none
or_none_out N i h = rw (nltb_of h)

length-range : (c a : ℕ) → length (range c a) ≡ c
unfolding range
length-range zero a = refl
length-range (suc c) a = ap suc (length-range c (suc a))

-- ---- groups

double_in : (n l g : ℕ) → g * 2 ^ suc l < n → 2 * g * 2 ^ l < n
double_in n l g h = omega (arith, dbl l g)

half_in : (n l g : ℕ) → g * 2 ^ l < n → g / 2 * 2 ^ suc l < n
half_in n l g h = (let e : 2 * (g / 2) ≤ g = omega arith in omega (arith, dbl l (g / 2), mul-le-mul_right (2 ^ l) e))

div_in : (n l y : ℕ) → y < n → y / 2 ^ l * 2 ^ l < n
div_in n l y b = omega (arith, div-mul-le_self y (2 ^ l))

half : (l y : ℕ) → y / 2 ^ suc l ≡ y / 2 ^ l / 2
half l y = sym (shr-shr y l 1 ∙ ap (λ q. y / 2 ^ q) e)
  where
    e : l + 1 ≡ suc l
    e = omega arith

module _ (N H n : ℕ) (small : N ≤ none) (some : 0 < n) (cover : n ≤ 2 ^ H) (values : ℕ → ℕ) (ws : List ℕ) (free : ℕ) (S : Start N H n values ws free) where
  -- ---- the labels

  pub start_level : ℕ → ℕ
  start_level i = level_of n H H i

  start_group : ℕ → ℕ
  start_group i = i - first n H (level_of n H H i)

  pub start_size : ℕ → ℕ
  start_size i = leaves n (level_of n H H i) (i - first n H (level_of n H H i))

  labels : (l g : ℕ) → l ≤ H → g * 2 ^ l < n → (start_level (node n H l g) ≡ l) × (start_group (node n H l g) ≡ g) × (start_size (node n H l g) ≡ leaves n l g)
  unfolding start_level start_group start_size
  labels l g h b =
      let e = level_is n H l g h (width_in n l g b) in
      let q : first n H l + g - first n H (level_of n H H (first n H l + g)) ≡ g = omega (arith, ap (first n H) e) in
      (e, q, ap (λ a. leaves n a (first n H l + g - first n H (level_of n H H (first n H l + g)))) e ∙ ap (leaves n l) q)

  in_n : (l g : ℕ) → l ≤ H → g * 2 ^ l < n → node n H l g < N
  in_n l g h b = omega (arith, id_lt n H l g h (width_in n l g b), S.fits)

  -- ---- what the nodes hold

  to_right : (l g : ℕ) → l < H → g * 2 ^ suc l < n → (2 * g + 1) * 2 ^ l < n → right ws (node n H (suc l) g) ≡ node n H l (2 * g + 1)
  to_right l g h b r = (S.inner l g h b).right_is ∙ rw (ltb_of r)

  no_right : (l g : ℕ) → l < H → g * 2 ^ suc l < n → ¬ ((2 * g + 1) * 2 ^ l < n) → right ws (node n H (suc l) g) ≡ none
  no_right l g h b r = (let r' : n ≤ (2 * g + 1) * 2 ^ l = omega arith in (S.inner l g h b).right_is ∙ rw (nltb_of r'))

  leaf_at : (g : ℕ) → g * 2 ^ 0 < n → NodeIs ws (node n H 0 g) 1 none none (values g)
  leaf_at g b = S.leaf g (omega arith)

  one : (l g : ℕ) → l ≤ H → g * 2 ^ l < n → refcount ws (node n H l g) ≡ 1
  one zero g h b = (leaf_at g b).refcount_is
  one (suc l) g h b = (S.inner l g h b).refcount_is

  -- a node in use is a node of the tree
  find : (i : ℕ) → i < N → 0 < refcount ws i → (l : ℕ) × (g : ℕ) × (l ≤ H) × (g * 2 ^ l < n) × (i ≡ node n H l g)
  find i b p = elim (dec_lt i (nodes_to n H)) [
    | yes h ↦ (let r = id_of n H i h in (r.0, r.1, r.2, in_width n r.0 r.1 r.3, r.4))
    | no h ↦ absurd (omega (arith, (S.rest i (omega arith) b).refcount_is))
  ]

  -- what a node of the tree links to
  children : (m k i : ℕ) → m ≤ H → k * 2 ^ m < n → i < N → 0 < δ i (left ws (node n H m k)) + δ i (right ws (node n H m k))
      → (l : ℕ) × (g : ℕ) × (m ≡ suc l) × (g / 2 ≡ k) × (g * 2 ^ l < n) × (i ≡ node n H l g)
  children zero k i h b bi p = absurd (omega (arith, ap (δ i) (leaf_at k b).left_is, ap (δ i) (leaf_at k b).right_is, δ_other i none (omega arith)))
  children (suc l) k i h b bi p = elim (ℕ_discrete i (left ws (node n H (suc l) k))) [
    | yes e ↦ (l, 2 * k, refl, omega arith, double_in n l k b, e ∙ (S.inner l k h b).left_is)
    | no e ↦ (let q = δ_eq i (right ws (node n H (suc l) k)) (omega (arith, δ_other i (left ws (node n H (suc l) k)) e)) in elim (dec_lt ((2 * k + 1) * 2 ^ l) n) [
      | yes r ↦ (l, 2 * k + 1, refl, omega arith, r, q ∙ to_right l k h b r)
      | no r ↦ absurd (omega (arith, no_right l k h b r))
    ])
  ]

  -- a link is one from parent to child
  link_is : (i j : ℕ) → i < N → j < N → 0 < link ws i j → (l : ℕ) × (g : ℕ) × (l < H) × (g * 2 ^ l < n) × (i ≡ node n H l g) × (j ≡ node n H (suc l) (g / 2))
  link_is i j bi bj p =
      let u = link_inv ws i j p in
      let r = find j bj u in
      let w = children r.0 r.1 i r.2 r.3 bi (subst (λ q. 0 < δ i (left ws q) + δ i (right ws q)) r.4 (omega (arith, link_pos ws i j u))) in
      (w.0, w.1, omega (arith, w.2, r.2), w.4, w.5, r.4 ∙ ap (λ q. node n H q r.1) w.2 ∙ ap (node n H (suc w.0)) (sym w.3))

  -- the parent links once
  parent_link : (l g : ℕ) → l < H → g * 2 ^ l < n → link ws (node n H l g) (node n H (suc l) (g / 2)) ≡ 1
  parent_link l g h b =
      let b' = half_in n l g b in
      let i = node n H l g in
      let j = node n H (suc l) (g / 2) in
      let a = link_pos ws i j (omega (arith, one (suc l) (g / 2) h b')) in
      let L = (S.inner l (g / 2) h b').left_is in
      elim (dec_lt ((2 * (g / 2) + 1) * 2 ^ l) n) [
        | yes r ↦ (let Q = to_right l (g / 2) h b' r in elim (ℕ_discrete (g % 2) 0) [
          | yes z ↦ (let e : left ws j ≡ i = L ∙ omega arith in omega (arith, a, ap (δ i) e, δ_same i, ap (δ i) Q, δ_other i (node n H l (2 * (g / 2) + 1)) (omega arith)))
          | no z ↦ (let e : right ws j ≡ i = Q ∙ omega arith in omega (arith, a, ap (δ i) e, δ_same i, ap (δ i) L, δ_other i (node n H l (2 * (g / 2))) (omega arith)))
        ])
        | no r ↦ (
            let z : g % 2 ≡ 0 = even r in
            let e : left ws j ≡ i = L ∙ omega arith in
            omega (arith, a, ap (δ i) e, δ_same i, ap (δ i) (no_right l (g / 2) h b' r), δ_other i none (omega (arith, in_n l g (omega arith) b))))
      ]
    where
      even : ¬ ((2 * (g / 2) + 1) * 2 ^ l < n) → g % 2 ≡ 0
      even r = elim (ℕ_discrete (g % 2) 0) [ yes z ↦ z | no z ↦ absurd (r (subst (λ q. q * 2 ^ l < n) (omega arith) b)) ]

  -- ---- links counted

  indegree_root : indegree N ws 0 ≡ 0
  unfolding indegree
  indegree_root = sum_zero N (link ws 0) (λ j b. elim (ℕ_discrete (link ws 0 j) 0) [
    | yes e ↦ e
    | no e ↦ (let w = link_is 0 j (omega (arith, in_n H 0 (omega arith) (omega arith))) b (omega arith) in
        absurd (omega (arith, w.4, first_lt n H w.0 H w.2 (omega arith), width_in n H 0 (omega arith))))
  ])

  indegree_free : (i : ℕ) → nodes_to n H ≤ i → i < N → indegree N ws i ≡ 0
  unfolding indegree
  indegree_free i h bi = sum_zero N (link ws i) (λ j b. elim (ℕ_discrete (link ws i j) 0) [
    | yes e ↦ e
    | no e ↦ (let w = link_is i j bi b (omega arith) in absurd (omega (arith, w.4, id_lt n H w.0 w.1 (omega (arith, w.2)) (width_in n w.0 w.1 w.3))))
  ])

  indegree-node : (l g : ℕ) → l < H → g * 2 ^ l < n → indegree N ws (node n H l g) ≡ 1
  unfolding indegree
  indegree-node l g h b =
      let i = node n H l g in
      let bi = in_n l g (omega arith) b in
      sum_one N (node n H (suc l) (g / 2)) (link ws i) (in_n (suc l) (g / 2) h (half_in n l g b)) (λ j bj o. elim (ℕ_discrete (link ws i j) 0) [
        | yes e ↦ e
        | no e ↦ (let w = link_is i j bi bj (omega arith) in
            let q = id_inj n H l g w.0 w.1 (omega arith) (omega (arith, w.2)) (width_in n l g b) (width_in n w.0 w.1 w.3) w.4 in
            absurd (o (w.5 ∙ ap (λ c. node n H (suc c) (w.1 / 2)) (sym q.0) ∙ ap (λ c. node n H (suc l) (c / 2)) (sym q.1))))
      ])
      ∙ parent_link l g h b

  used_in_tree : (i : ℕ) → i < nodes_to n H → refcount ws i ≡ 1
  used_in_tree i b = (let r = id_of n H i b in ap (refcount ws) r.4 ∙ one r.0 r.1 r.2 (in_width n r.0 r.1 r.3))

  start_counts : (i : ℕ) → i < N → refcount ws i + δ i none ≡ count i (0 ∷ []) + indegree N ws i
  start_counts i b = elim (dec_lt i (nodes_to n H)) [
    | no h ↦ omega (arith, (S.rest i (omega arith) b).refcount_is, δ_other i none (omega arith), count_cons i 0 [], count_nil i, δ_other i 0 (omega (arith, id_lt n H H 0 (omega arith) (width_in n H 0 (omega arith)))), indegree_free i (omega arith) b)
    | yes h ↦ (let r = id_of n H i h in elim (ℕ_discrete r.0 H) [
      | yes e ↦ (let z : i ≡ 0 = omega (arith, r.4, ap (first n H) e, first-top n H, r.3, ap (width n) e, width_one n H some cover) in
          omega (arith, used_in_tree i h, δ_other i none (omega arith), count_cons i 0 [], count_nil i, ap (δ i) (sym z), δ_same i, ap (indegree N ws) z, indegree_root))
      | no e ↦ (
          let q = first_lt n H r.0 H (omega (arith, r.2)) (omega arith) in
          omega (
            arith,
            used_in_tree i h,
            δ_other i none (omega arith),
            count_cons i 0 [],
            count_nil i,
            δ_other i 0 (omega (arith, r.4, width_in n H 0 (omega arith))),
            ap (indegree N ws) r.4,
            indegree-node r.0 r.1 (omega (arith, r.2)) (in_width n r.0 r.1 r.3),
          ))
    ])
  ]

  -- ---- the shape, and the free list

  start-node : (l g : ℕ) → l ≤ H → g * 2 ^ l < n → NodeAt N start_level start_size l (leaves n l g) (node n H l g)
  start-node l g h b = (let e = labels l g h b in record { inside = in_n l g h b; at_level = e.0; of_size = e.2 })

  start-links : (l g : ℕ) → l ≤ H → g * 2 ^ l < n → Links N start_level start_size l (leaves n l g) (left ws (node n H l g)) (right ws (node n H l g))
  unfolding Links
  start-links zero g h b = (let e = leaf_at g b in (leaves_leaf n g b, e.left_is, e.right_is))
  start-links (suc l) g h b = (
    rw (leaves-left n l g, (S.inner l g h b).left_is) (start-node l (2 * g) (omega arith) (double_in n l g b)),
    rw (leaves-right n l g) (elim (dec_lt ((2 * g + 1) * 2 ^ l) n) [
      | yes q ↦ rw (to_right l g h b q) (node_right_at N start_level start_size l (leaves n l (2 * g + 1)) (node n H l (2 * g + 1)) (leaves-some n l (2 * g + 1) q) (start-node l (2 * g + 1) (omega arith) q))
      | no q ↦ none_right_at N start_level start_size l (leaves n l (2 * g + 1)) (right ws (node n H (suc l) g)) (leaves_none n l (2 * g + 1) q) (no_right l g h b q)
    ]),
  )

  start-inner : (l g : ℕ) → l ≤ H → g * 2 ^ l < n → 0 < l → value ws (node n H l g) ≡ 0
  start-inner zero g h b p = omega arith
  start-inner (suc l) g h b p = (S.inner l g h b).value_is

  pub start_free : List ℕ
  start_free = range (N - nodes_to n H) (nodes_to n H)

  pub start_free_lem : length start_free ≡ N - nodes_to n H
  unfolding start_free
  start_free_lem = length-range (N - nodes_to n H) (nodes_to n H)

  start_chain : (c a x : ℕ) → nodes_to n H ≤ a → a + c ≡ N → x ≡ or_none N a → Chain (left ws) N x (range c a)
  unfolding range
  start_chain zero a x h e p = p ∙ or_none_out N a (omega arith)
  start_chain (suc c) a x h e p = (p ∙ or_none_in N a (omega arith), omega arith, start_chain c (suc a) (left ws a) (omega arith) (omega arith) (S.rest a h (omega arith)).left_is)

  pub start-live : Live N H n start_level start_size ws free start_free (0 ∷ [])
  unfolding start_free
  start-live = record {
    inv = record {
      room = S.room;
      counts = start_counts;
      shape = λ j b p. (let r = find j b p in subst (λ q. Links N start_level start_size (start_level q) (start_size q) (left ws q) (right ws q)) (sym r.4)
          (let e = labels r.0 r.1 r.2 r.3 in rw (e.0, e.2) (start-links r.0 r.1 r.2 r.3)));
      bounded = λ j b p. (let r = find j b p in omega (arith, ap start_level r.4, (labels r.0 r.1 r.2 r.3).0, r.2));
      inner = λ j b p q. (let r = find j b p in ap (value ws) r.4 ∙ start-inner r.0 r.1 r.2 r.3 (omega (arith, ap start_level r.4, (labels r.0 r.1 r.2 r.3).0)));
      chain = start_chain (N - nodes_to n H) (nodes_to n H) free (omega arith) (omega (arith, S.fits)) S.head;
      listed = λ i b. elim (dec_lt i (nodes_to n H)) [
        | yes h ↦ omega (arith, count-range_out (N - nodes_to n H) (nodes_to n H) i (inl h), δ₀_pos (refcount ws i) (omega (arith, used_in_tree i h)))
        | no h ↦ omega (arith, count-range_in (N - nodes_to n H) (nodes_to n H) i (omega arith) (omega arith), δ₀_zero (refcount ws i) (S.rest i (omega arith) b).refcount_is)
      ];
      cleared = λ i b z. elim (dec_lt i (nodes_to n H)) [
        | yes h ↦ absurd (omega (arith, used_in_tree i h))
        | no h ↦ (let q = S.rest i (omega arith) b in (q.right_is, q.value_is))
      ];
    };
    roots = λ e p. subst (NodeAt N start_level start_size H n) (sym (root e p)) (subst (λ q. NodeAt N start_level start_size H q (node n H H 0)) (leaves-top n H cover) (start-node H 0 (omega arith) (omega arith)));
  }
    where
      root : (e : ℕ) → 0 < count e (0 ∷ []) → e ≡ node n H H 0
      root e p = δ_eq e 0 (omega (arith, count_cons e 0 [], count_nil e)) ∙ omega (arith, first-top n H)

  -- ---- the walk to a splitter meets the node of its group

  child-start : (l y : ℕ) → l < H → y < n → child ws (node n H (suc l) (y / 2 ^ suc l)) (bit l y) ≡ node n H l (y / 2 ^ l)
  unfolding child bit side
  child-start l y h b = go (y / 2 ^ l % 2) refl
    where
      g : ℕ
      g = y / 2 ^ suc l

      in_g : g * 2 ^ suc l < n
      in_g = div_in n (suc l) y b

      go : (t : ℕ) → y / 2 ^ l % 2 ≡ t → side t (left ws (node n H (suc l) (y / 2 ^ suc l))) (right ws (node n H (suc l) (y / 2 ^ suc l))) ≡ node n H l (y / 2 ^ l)
      go zero e = (S.inner l g h in_g).left_is ∙ ap (node n H l) (omega (arith, half l y))
      go (suc t') e =
          let q : 2 * g + 1 ≡ y / 2 ^ l = omega (arith, half l y) in
          to_right l g h in_g (subst (λ c. c * 2 ^ l < n) (sym q) (div_in n l y b)) ∙ ap (node n H l) q

  walk_from : (k l y : ℕ) → k ≤ l → l ≤ H → y < n → walk k l ws (node n H l (y / 2 ^ l)) y ≡ node n H k (y / 2 ^ k)
  walk_from k zero y h hl b = walk_here k 0 ws (node n H 0 (y / 2 ^ 0)) y (omega arith) ∙ (let e : 0 ≡ k = omega arith in ap (λ q. node n H q (y / 2 ^ q)) e)
  walk_from k (suc l) y h hl b = elim (dec_le k l) [
    | yes q ↦ walk_go k l ws (node n H (suc l) (y / 2 ^ suc l)) y q ∙ ap (λ c. walk k l ws c y) (child-start l y hl b) ∙ walk_from k l y q (omega arith) b
    | no q ↦ walk_here k (suc l) ws (node n H (suc l) (y / 2 ^ suc l)) y (omega arith) ∙ (let e : suc l ≡ k = omega arith in ap (λ c. node n H c (y / 2 ^ c)) e)
  ]

  start-walk : (k y : ℕ) → k ≤ H → y < n → walk k H ws 0 y ≡ node n H k (y / 2 ^ k)
  start-walk k y h b = ap (λ c. walk k H ws c y) e ∙ walk_from k H y h (omega arith) b
    where
      e : 0 ≡ node n H H (y / 2 ^ H)
      e = omega (arith, first-top n H, div-eq_of_lt {n = y} {m = 2 ^ H} (omega arith))

  pub start_read : (y : ℕ) → y < n → read_at H ws 0 y ≡ values y
  start_read y b = read_at-walk H ws 0 y ∙ ap (value ws) (start-walk 0 y (omega arith) b) ∙ (leaf_at (y / 2 ^ 0) (div_in n 0 y b)).value_is ∙ ap values (div-one y)

  pub start_share : Share N H n start_level ws ((0, []) ∷ [])
  start_share = record {
    stamp = λ i. [];
    group = start_group;
    stamped = λ F m k y h b. at F (eq_of_singleton m) k y h b;
    injective = λ i j bi bj pi pj el eg es. same_place i j (find i bi pi) (find j bj pj) el eg;
  }
    where
      at : (F : Frame) → F ≡ (0, []) → (k y : ℕ) → k ≤ H → y < n → ([] ≡ last_write k (y / 2 ^ k) F.1) × (start_group (walk k H ws F.0 y) ≡ y / 2 ^ k)
      at F e k y h b = subst (λ (q : Frame). ([] ≡ last_write k (y / 2 ^ k) q.1) × (start_group (walk k H ws q.0 y) ≡ y / 2 ^ k)) (sym e)
          (refl, ap start_group (start-walk k y h b) ∙ (labels k (y / 2 ^ k) h (div_in n k y b)).1)

      same_place : (i j : ℕ) → (l : ℕ) × (g : ℕ) × (l ≤ H) × (g * 2 ^ l < n) × (i ≡ node n H l g) → (l : ℕ) × (g : ℕ) × (l ≤ H) × (g * 2 ^ l < n) × (j ≡ node n H l g)
          → start_level i ≡ start_level j → start_group i ≡ start_group j → i ≡ j
      same_place i j a b el eg =
          let la = labels a.0 a.1 a.2 a.3 in
          let lb = labels b.0 b.1 b.2 b.3 in
          let p : a.0 ≡ b.0 = sym la.0 ∙ ap start_level (sym a.4) ∙ el ∙ ap start_level b.4 ∙ lb.0 in
          let q : a.1 ≡ b.1 = sym la.1 ∙ ap start_group (sym a.4) ∙ eg ∙ ap start_group b.4 ∙ lb.1 in
          a.4 ∙ ap (λ l. node n H l a.1) p ∙ ap (node n H b.0) q ∙ sym b.4
