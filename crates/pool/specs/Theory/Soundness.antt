-- The pool part of document 01's soundness is the invariant, with the level and the size of each node read from its links.
use Rattle.std.specs.Prelude.{◌≡◌, ◌≢◌, ◌↔◌, List, cond, eqb}
use Rattle.std.proofs.Math.Path.{refl, sym, ap}
use Rattle.std.proofs.Common.{◌∙◌, subst, eq-eqb, ne_eqb}
use Rattle.std.proofs.Math.Logic.{inl, inr}
use Prim.Native.Nat.{ℕ, zero, suc, ◌+◌, ◌-◌, ◌*◌, ◌≤◌, ◌<◌, ◌^◌, ◌%◌, min}
use native.Mathlib.Omega.{arith}
use Rattle.std.proofs.Math.Decide.{ℕ_discrete, dec_lt, dec_le}
use Rattle.words.specs.Basics.{none, sum, δ, count}
use Rattle.words.specs.Counting.{δ_other, δ₀, δ₀_zero, δ₀_pos, δ₀_inv, when, when_zero, when_pos, when_inv, sum_cong, sum_ge, sum_pos}
use Rattle.sizes.specs.Bits.{bit_lt, low0, low1, low_lt}
use Rattle.sizes.specs.Leaves.{leaves, dbl, leaves-left, leaves-right, leaves-sum, leaves-some, leaves_none, leaves_back, leaves-top, leaves_leaf}
use Rattle.sizes.specs.Sizes.{bit}
use Rattle.pool.specs.Pool.{refcount, left, right, side, child}
use Rattle.pool.specs.Theory.Invariant.{NodeAt, Links, link, indegree, right_at_node, node_right_at, right_at_none, none_right_at, links_leaf, used_left, used_right, links_at}
use Rattle.pool.specs.Theory.Operations.{Live, root_covers}
use Rattle.pool.specs.Theory.Reached.{in_use_reached}
use Rattle.pool.specs.Theory.Trees.{TreeAt, nodes_of, visits, reached_link, PoolSound, tree_in, tree-value, tree-left, tree-right, tree-bare, tree_leaf, tree_cases, count_root, count_left, count-right, place, linked, tree_closed, visit_root, root_visit}
use Rattle.pool.specs.Theory.Walk.{walk, walk_go, walk_here}

-- ---- the level and the size of a node, from the links

-- the links on the way left, at most d of them; the leaves below node i of level l
unfoldable pub depth : ℕ → List ℕ → ℕ → ℕ
depth zero ws i = 0
depth (suc d) ws i = let r : ℕ = suc (depth d ws (left ws i)) in cond (eqb (left ws i) none) 0 r

unfoldable pub leaves_below : ℕ → List ℕ → ℕ → ℕ
leaves_below zero ws i = 1
leaves_below (suc l) ws i = let r : ℕ = leaves_below l ws (right ws i) in leaves_below l ws (left ws i) + cond (eqb (right ws i) none) 0 r

unfoldable pub link_level : ℕ → List ℕ → ℕ → ℕ
link_level H ws i = depth H ws i

unfoldable pub link_size : ℕ → List ℕ → ℕ → ℕ
link_size H ws i = leaves_below (depth H ws i) ws i

module _ (n N : ℕ) (small : N ≤ none) (ws : List ℕ) where
  depth_is : (l d g i : ℕ) → l ≤ d → TreeAt n N ws l g i → depth d ws i ≡ l
  unfolding depth
  depth_is zero zero g i h t = refl
  depth_is zero (suc d) g i h t = rw (eq-eqb (left ws i) none (tree_leaf n N ws g i t).0)
  depth_is (suc l) zero g i h t = omega arith
  depth_is (suc l) (suc d) g i h t =
      let s = tree-left n N ws l g i t in
      rw (ne_eqb (left ws i) none (omega (arith, tree_in n N ws l (2 * g) (left ws i) s))) (ap suc (depth_is l d (2 * g) (left ws i) (omega arith) s))

  leaves_below_is : (l g i : ℕ) → g * 2 ^ l < n → TreeAt n N ws l g i → leaves_below l ws i ≡ leaves n l g
  unfolding leaves_below
  leaves_below_is zero g i ok t = sym (leaves_leaf n g ok)
  leaves_below_is (suc l) g i ok t =
      let a = leaves_below_is l (2 * g) (left ws i) (omega (arith, dbl l g)) (tree-left n N ws l g i t) in
      elim (dec_lt ((2 * g + 1) * 2 ^ l) n) [
        | yes h ↦ (let s = tree-right n N ws l g i t h in
            rw (ne_eqb (right ws i) none (omega (arith, tree_in n N ws l (2 * g + 1) (right ws i) s)))
            (omega (arith, a, leaves-sum n l g, leaves_below_is l (2 * g + 1) (right ws i) h s)))
        | no h ↦ rw (eq-eqb (right ws i) none (tree-bare n N ws l g i t (omega arith))) (omega (arith, a, leaves-sum n l g, leaves_none n l (2 * g + 1) h))
      ]

-- ---- reached and in use alike, the links are counted alike

when_cong : (a b x : ℕ) → δ₀ a ≡ δ₀ b → when a x ≡ when b x
when_cong a b x e = elim (ℕ_discrete a 0) [
  | yes p ↦ when_zero a x p ∙ sym (when_zero b x (δ₀_inv b (omega (arith, δ₀_zero a p))))
  | no p ↦ elim (ℕ_discrete b 0) [
    | yes q ↦ absurd (omega (arith, δ₀_pos a (omega arith), δ₀_zero b q))
    | no q ↦ when_pos a x (omega arith) ∙ sym (when_pos b x (omega arith))
  ]
]

indegree-reached : (N H n : ℕ) (ws E : List ℕ) → ((i : ℕ) → i < N → δ₀ (visits n H ws E i) ≡ δ₀ (refcount ws i)) → (i : ℕ) → sum N (reached_link n H ws E i) ≡ indegree N ws i
unfolding indegree link reached_link
indegree-reached N H n ws E h i = sum_cong N (reached_link n H ws E i) (link ws i) (λ j b. when_cong (visits n H ws E j) (refcount ws j) (δ i (left ws j) + δ i (right ws j)) (h j b))

-- ---- sound gives the invariant

module _ (N H n : ℕ) (small : N ≤ none) (some : 0 < n) (cover : n ≤ 2 ^ H) {ws : List ℕ} {free : ℕ} {fs E : List ℕ} (S : PoolSound N H n ws free fs E) where
  labels : (l g i : ℕ) → l ≤ H → g * 2 ^ l < n → TreeAt n N ws l g i → (link_level H ws i ≡ l) × (link_size H ws i ≡ leaves n l g)
  unfolding link_level link_size
  labels l g i h ok t = (let e = depth_is n N small ws l H g i h t in (e, ap (λ q. leaves_below q ws i) e ∙ leaves_below_is n N small ws l g i ok t))

  tree-node : (l g i : ℕ) → l ≤ H → g * 2 ^ l < n → TreeAt n N ws l g i → NodeAt N (link_level H ws) (link_size H ws) l (leaves n l g) i
  tree-node l g i h ok t = (let e = labels l g i h ok t in record { inside = tree_in n N ws l g i t; at_level = e.0; of_size = e.1 })

  tree-links : (l g i : ℕ) → l ≤ H → g * 2 ^ l < n → TreeAt n N ws l g i → Links N (link_level H ws) (link_size H ws) l (leaves n l g) (left ws i) (right ws i)
  unfolding Links
  tree-links zero g i h ok t = (leaves_leaf n g ok, (tree_leaf n N ws g i t).0, (tree_leaf n N ws g i t).1)
  tree-links (suc l) g i h ok t = (
    rw (leaves-left n l g) (tree-node l (2 * g) (left ws i) (omega arith) (omega (arith, dbl l g)) (tree-left n N ws l g i t)),
    rw (leaves-right n l g) (elim (dec_lt ((2 * g + 1) * 2 ^ l) n) [
      | yes q ↦ node_right_at N (link_level H ws) (link_size H ws) l (leaves n l (2 * g + 1)) (right ws i) (leaves-some n l (2 * g + 1) q) (tree-node l (2 * g + 1) (right ws i) (omega arith) q (tree-right n N ws l g i t q))
      | no q ↦ none_right_at N (link_level H ws) (link_size H ws) l (leaves n l (2 * g + 1)) (right ws i) (leaves_none n l (2 * g + 1) q) (tree-bare n N ws l g i t (omega arith))
    ]),
  )

  reached_used : (i : ℕ) → i < N → 0 < visits n H ws E i → 0 < refcount ws i
  unfolding reached_link
  reached_used i b p =
      let m = visit_root n N ws H i E p in
      elim (linked n N ws H 0 m.0 i (S.trees m.0 m.1) m.2) [
        | inl e ↦ omega (arith, S.refcounts i b p, m.1, ap (λ q. count q E) e)
        | inr w ↦ (let u = root_visit n N ws H w.0 m.0 E m.1 w.1 in
            omega (arith, S.refcounts i b p, sum_ge N w.0 (reached_link n H ws E i) w.2, when_pos (visits n H ws E w.0) (δ i (left ws w.0) + δ i (right ws w.0)) u, w.3))
      ]

  same_δ₀ : (i : ℕ) → i < N → δ₀ (visits n H ws E i) ≡ δ₀ (refcount ws i)
  same_δ₀ i b = elim (ℕ_discrete (visits n H ws E i) 0) [
    | yes e ↦ δ₀_zero (visits n H ws E i) e ∙ sym (δ₀_zero (refcount ws i) (S.unreached i b e).0)
    | no e ↦ δ₀_pos (visits n H ws E i) (omega arith) ∙ sym (δ₀_pos (refcount ws i) (reached_used i b (omega arith)))
  ]

  -- nothing links to a node that is not reached
  unlinked : (i : ℕ) → i < N → visits n H ws E i ≡ 0 → (count i E ≡ 0) × (sum N (reached_link n H ws E i) ≡ 0)
  unfolding reached_link
  unlinked i b z = (
    elim (ℕ_discrete (count i E) 0) [ yes e ↦ e | no e ↦ absurd (omega (arith, root_visit n N ws H i i E (omega arith) (count_root n N ws H 0 i))) ],
    elim (ℕ_discrete (sum N (reached_link n H ws E i)) 0) [
      | yes e ↦ e
      | no e ↦ (let J = sum_pos N (reached_link n H ws E i) (omega arith) in
          let j = J.0 in
          let u = when_inv (visits n H ws E j) (δ i (left ws j) + δ i (right ws j)) J.2 in
          let m = visit_root n N ws H j E u in
          absurd (omega (
            arith,
            root_visit n N ws H i m.0 E m.1
                (tree_closed n N ws small H 0 m.0 j i b (omega (arith, J.2, when_pos (visits n H ws E j) (δ i (left ws j) + δ i (right ws j)) u)) (S.trees m.0 m.1) m.2),
          )))
    ],
  )

  where_is : (i : ℕ) → i < N → 0 < refcount ws i → (k : ℕ) × (d : ℕ) × (k ≤ H) × (d * 2 ^ k < n) × TreeAt n N ws k d i
  where_is i b p = elim (ℕ_discrete (visits n H ws E i) 0) [
    | yes e ↦ absurd (omega (arith, (S.unreached i b e).0))
    | no e ↦ (let m = visit_root n N ws H i E (omega arith) in place n N ws H 0 m.0 i (omega arith) (S.trees m.0 m.1) m.2)
  ]

  pub sound-live : Live N H n (link_level H ws) (link_size H ws) ws free fs E
  sound-live = record {
    inv = record {
      room = S.room;
      counts = λ i b. elim (ℕ_discrete (visits n H ws E i) 0) [
        | yes e ↦ omega (arith, (S.unreached i b e).0, (unlinked i b e).0, (unlinked i b e).1, indegree-reached N H n ws E same_δ₀ i, δ_other i none (omega arith))
        | no e ↦ omega (arith, S.refcounts i b (omega arith), indegree-reached N H n ws E same_δ₀ i, δ_other i none (omega arith))
      ];
      shape = λ j b p. (let w = where_is j b p in let e = labels w.0 w.1 j w.2 w.3 w.4 in rw (e.0, e.1) (tree-links w.0 w.1 j w.2 w.3 w.4));
      bounded = λ j b p. (let w = where_is j b p in omega (arith, (labels w.0 w.1 j w.2 w.3 w.4).0, w.2));
      inner = λ j b p q. (let w = where_is j b p in tree-value n N ws w.0 w.1 j w.4 (omega (arith, (labels w.0 w.1 j w.2 w.3 w.4).0)));
      chain = S.chain;
      listed = λ i b. S.once i b ∙ same_δ₀ i b;
      cleared = λ i b z. (let q = S.unreached i b (δ₀_inv (visits n H ws E i) (omega (arith, same_δ₀ i b, δ₀_zero (refcount ws i) z))) in (q.1, q.2));
    };
    roots = λ e p. subst (λ q. NodeAt N (link_level H ws) (link_size H ws) H q e) (leaves-top n H cover) (tree-node H 0 e (omega arith) (omega arith) (S.trees e p));
  }

-- ---- the invariant gives sound

module _ (N H n : ℕ) (small : N ≤ none) (some : 0 < n) (cover : n ≤ 2 ^ H) {level size : ℕ → ℕ} {ws : List ℕ} {free : ℕ} {fs E : List ℕ} (L : Live N H n level size ws free fs E) where
  -- node i is in use, at level l, with the leaves of group g
  abbrev UsedAt : ℕ → ℕ → ℕ → Type 0
  UsedAt l g i = (i < N) × (0 < refcount ws i) × (level i ≡ l) × (size i ≡ leaves n l g)

  used_at_left : (l g i : ℕ) → UsedAt (suc l) g i → UsedAt l (2 * g) (left ws i)
  unfolding Links
  used_at_left l g i u =
      let F = (links_at L.inv i (suc l) u.0 u.1 u.2).0 in
      (F.inside, used_left L.inv i (left ws i) u.0 u.1 F.inside (omega (arith, F.inside)) refl, F.at_level, F.of_size ∙ ap (λ q. min q (2 ^ l)) u.3 ∙ leaves-left n l g)

  size-right : (l g i : ℕ) → UsedAt (suc l) g i → size i - 2 ^ l ≡ leaves n l (2 * g + 1)
  size-right l g i u = ap (λ q. q - 2 ^ l) u.3 ∙ leaves-right n l g

  used_at_right : (l g i : ℕ) → UsedAt (suc l) g i → (2 * g + 1) * 2 ^ l < n → UsedAt l (2 * g + 1) (right ws i)
  unfolding Links
  used_at_right l g i u h =
      let t = size-right l g i u in
      let F = right_at_node N level size l (size i - 2 ^ l) (right ws i) (omega (arith, leaves-some n l (2 * g + 1) h)) (links_at L.inv i (suc l) u.0 u.1 u.2).1 in
      (F.inside, used_right L.inv i (right ws i) u.0 u.1 F.inside (omega (arith, F.inside)) refl, F.at_level, F.of_size ∙ t)

  used_tree : (l g i : ℕ) → UsedAt l g i → TreeAt n N ws l g i
  unfolding TreeAt Links
  used_tree zero g i u = (let k = links_leaf N level size (size i) (left ws i) (right ws i) (links_at L.inv i zero u.0 u.1 u.2) in (u.0, k.0, k.1))
  used_tree (suc l) g i u = (
    u.0,
    L.inv.inner i u.0 u.1 (omega (arith, u.2)),
    used_tree l (2 * g) (left ws i) (used_at_left l g i u),
    (λ h. used_tree l (2 * g + 1) (right ws i) (used_at_right l g i u h)),
    (λ h. right_at_none N level size l (size i - 2 ^ l) (right ws i) (size-right l g i u ∙ leaves_none n l (2 * g + 1) (omega arith)) (links_at L.inv i (suc l) u.0 u.1 u.2).1),
  )

  tree_used : (l g c i : ℕ) → UsedAt l g c → 0 < count i (nodes_of n ws l g c) → 0 < refcount ws i
  tree_used l g c i u o =
      tree_cases n N ws (λ l g c. UsedAt l g c → 0 < refcount ws i) i (λ l g w. w.1) (λ l g c t r w. r (used_at_left l g c w)) (λ l g c t h r w. r (used_at_right l g c w h)) l g c (used_tree l g c u) o u

  walk_in_tree : (k l g c y : ℕ) → k ≤ l → y % 2 ^ l < size c → UsedAt l g c → 0 < count (walk k l ws c y) (nodes_of n ws l g c)
  walk_in_tree k zero g c y h p u = rw (walk_here k 0 ws c y (omega arith)) (count_root n N ws 0 g c)
  walk_in_tree k (suc l) g c y h p u = elim (dec_le k l) [
    | no q ↦ rw (walk_here k (suc l) ws c y (omega arith)) (count_root n N ws (suc l) g c)
    | yes q ↦ rw (walk_go k l ws c y q) (elim (ℕ_discrete (bit l y) 0) [
      | yes z ↦ rw (to_left z) (count_left n N ws l g c (walk k l ws (left ws c) y)
          (walk_in_tree k l (2 * g) (left ws c) y q (omega (arith, low0 l y z, low_lt l y, (used_at_left l g c u).3, u.3, leaves-left n l g)) (used_at_left l g c u)))
      | no z ↦ (
          let e = low1 l y (one z) in
          let h' = leaves_back n l (2 * g + 1) (omega (arith, leaves-right n l g, u.3)) in
          rw (to_right z) (count-right n N ws l g c (walk k l ws (right ws c) y) h'
          (walk_in_tree k l (2 * g + 1) (right ws c) y q (omega (arith, (used_at_right l g c u h').3, u.3, leaves-right n l g)) (used_at_right l g c u h'))))
    ])
  ]
    where
      one : bit l y ≢ 0 → bit l y ≡ 1
      one o = omega (arith, bit_lt l y)

      to_left : bit l y ≡ 0 → child ws c (bit l y) ≡ left ws c
      to_left z = unfold child side in ap (λ b. side b (left ws c) (right ws c)) z

      to_right : bit l y ≢ 0 → child ws c (bit l y) ≡ right ws c
      to_right z = unfold child side in ap (λ b. side b (left ws c) (right ws c)) (one z)

  root_used : (e : ℕ) → 0 < count e E → UsedAt H 0 e
  root_used e p = (let K = root_covers N H n small cover L e 0 p some in (K.inside, K.in_use, K.at_level, (L.roots e p).of_size ∙ sym (leaves-top n H cover)))

  used_reached : (i : ℕ) → i < N → 0 < refcount ws i → 0 < visits n H ws E i
  used_reached i b p =
      let r = in_use_reached N H n small cover L i b p in
      let m = walk_in_tree (level i) H 0 r.root r.splitter r.lower (root_covers N H n small cover L r.root r.splitter r.live r.bound).among (root_used r.root r.live) in
      root_visit n N ws H i r.root E r.live (subst (λ q. 0 < count q (nodes_of n ws H 0 r.root)) r.found m)

  visits_δ₀ : (i : ℕ) → i < N → δ₀ (visits n H ws E i) ≡ δ₀ (refcount ws i)
  visits_δ₀ i b = elim (ℕ_discrete (refcount ws i) 0) [
    | yes e ↦ elim (ℕ_discrete (visits n H ws E i) 0) [
      | yes q ↦ δ₀_zero (visits n H ws E i) q ∙ sym (δ₀_zero (refcount ws i) e)
      | no q ↦ (let m = visit_root n N ws H i E (omega arith) in absurd (omega (arith, tree_used H 0 m.0 i (root_used m.0 m.1) m.2)))
    ]
    | no e ↦ δ₀_pos (visits n H ws E i) (used_reached i b (omega arith)) ∙ sym (δ₀_pos (refcount ws i) (omega arith))
  ]

  pub live-sound : PoolSound N H n ws free fs E
  live-sound = record {
    room = L.inv.room;
    trees = λ e p. used_tree H 0 e (root_used e p);
    refcounts = λ i b p. omega (arith, L.inv.counts i b, indegree-reached N H n ws E visits_δ₀ i, δ_other i none (omega arith));
    unreached = λ i b z. (let h = δ₀_inv (refcount ws i) (omega (arith, visits_δ₀ i b, δ₀_zero (visits n H ws E i) z)) in let c = L.inv.cleared i b h in (h, c.0, c.1));
    chain = L.inv.chain;
    once = λ i b. L.inv.listed i b ∙ sym (visits_δ₀ i b);
  }

-- soundness is the invariant, with labels computed from the links
pub sound_iff_invariant : (N H n : ℕ) → N ≤ none → 0 < n → n ≤ 2 ^ H → (ws : List ℕ) (free : ℕ) (fs E : List ℕ)
    → PoolSound N H n ws free fs E ↔ Live N H n (link_level H ws) (link_size H ws) ws free fs E
sound_iff_invariant N H n small some cover ws free fs E = (sound-live N H n small some cover, live-sound N H n small some cover)
