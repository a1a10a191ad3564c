-- In use is reached: a node's reference count is not 0 if and only if it is on a live root's way to a splitter.
use Rattle.std.specs.Prelude.{◌≡◌, ◌≢◌, ◌⊎◌, ◌↔◌, List, [], length}
use Rattle.std.proofs.Math.Path.{refl, sym, ap}
use Rattle.std.proofs.Common.{◌∙◌, subst, inl, inr, mod-eq_of_lt}
use Prim.Native.Nat.{ℕ, zero, suc, ◌+◌, ◌-◌, ◌*◌, ◌≤◌, ◌<◌, ◌^◌, ◌%◌, min}
use native.Mathlib.Omega.{arith}
use Rattle.std.proofs.Math.Decide.{ℕ_discrete}
use Rattle.std.proofs.Math.Nat.{div-eq_of_lt}
use Rattle.std.proofs.Math.Arith.{digits_div, digits_mod}
use Rattle.words.specs.Basics.{none, count}
use Rattle.words.specs.Counting.{δ_other, δ_eq, δ₀_zero, when, when_zero, count_nil, sum_pos, sum_zero}
use Rattle.sizes.specs.Bits.{bit_lt, low0, low1, low_lt, Agree}
use Rattle.sizes.specs.Sizes.{bit}
use Rattle.pool.specs.Pool.{refcount, left, right, side, child}
use Rattle.pool.specs.Theory.FreeCount.{nodes_used, free_count}
use Rattle.pool.specs.Theory.Invariant.{Links, link, indegree, Invariant, right_at_node, right_at_some, links-left, links-right, links_leaf, link_pos, link_inv, used_left, used_right, links_at}
use Rattle.pool.specs.Theory.Operations.{Live, root_covers}
use Rattle.pool.specs.Theory.Walk.{walk, walk_go, walk_here, walk_agree, Covers, covers_walk}

-- equal low parts have equal low bits
low_agree : (l x y : ℕ) → x % 2 ^ l ≡ y % 2 ^ l → Agree 0 l x y
low_agree zero x y e m a b = absurd (omega arith)
low_agree (suc l) x y e m a b = elim (ℕ_discrete (bit l x) 0) [
  | yes p ↦ elim (ℕ_discrete (bit l y) 0) [
    | yes q ↦ pick (p ∙ sym q) (low_agree l x y (omega (arith, low0 l x p, low0 l y q)) m a)
    | no q ↦ absurd (omega (arith, low0 l x p, low1 l y (one y q), low_lt l x))
  ]
  | no p ↦ elim (ℕ_discrete (bit l y) 0) [
    | yes q ↦ absurd (omega (arith, low1 l x (one x p), low0 l y q, low_lt l y))
    | no q ↦ pick (one x p ∙ sym (one y q)) (low_agree l x y (omega (arith, low1 l x (one x p), low1 l y (one y q))) m a)
  ]
]
  where
    one : (t : ℕ) → bit l t ≢ 0 → bit l t ≡ 1
    one t o = omega (arith, bit_lt l t)

    pick : bit l x ≡ bit l y → (m < l → bit m x ≡ bit m y) → bit m x ≡ bit m y
    pick f g = elim (ℕ_discrete m l) [ yes q ↦ ap (λ i. bit i x) q ∙ f ∙ ap (λ i. bit i y) (sym q) | no q ↦ g (omega arith) ]

pub bit_low : (l y : ℕ) → y < 2 ^ l → bit l y ≡ 0
unfolding bit
bit_low l y h = ap (λ q. q % 2) (div-eq_of_lt h)

pub bit_high : (l y : ℕ) → y < 2 ^ l → bit l (1 * 2 ^ l + y) ≡ 1
unfolding bit
bit_high l y h = ap (λ q. q % 2) (digits_div 1 h)

-- i is the node of level k below c, on the way to some leaf of c, which is leaf r of i
pub record Under (size : ℕ → ℕ) (ws : List ℕ) (k l c i r : ℕ) : Type 0 where
  pub leaf : ℕ
  pub among : leaf < size c
  pub lower : k ≤ l
  pub found : walk k l ws c leaf ≡ i
  pub low : Agree 0 k leaf r

module _ {N H : ℕ} (small : N ≤ none) {level size : ℕ → ℕ} {ws : List ℕ} {free : ℕ} {fs E : List ℕ} (R : Invariant N H level size ws free fs none E) where
  -- a node in use has leaves, and no more than its level allows
  pub size_bounds : (l j : ℕ) → j < N → 0 < refcount ws j → level j ≡ l → (0 < size j) × (size j ≤ 2 ^ l)
  unfolding Links
  size_bounds zero j b p e = (let k = links_at R j zero b p e in (omega (arith, k.0), omega (arith, k.0)))
  size_bounds (suc l) j b p e =
      let k = links_at R j (suc l) b p e in
      let F = k.0 in
      let i = size_bounds l (left ws j) F.inside (used_left R j (left ws j) b p F.inside (omega (arith, F.inside)) refl) F.at_level in (
        omega (arith, F.of_size, i.0),
        elim (ℕ_discrete (size j - 2 ^ l) 0) [
          | yes q ↦ omega arith
          | no q ↦ (let G = right_at_node N level size l (size j - 2 ^ l) (right ws j) (omega arith) k.1 in
              omega (arith, G.of_size, (size_bounds l (right ws j) G.inside (used_right R j (right ws j) b p G.inside (omega (arith, G.inside)) refl) G.at_level).1))
        ],
      )

  -- what is below c is below the node that links to c
  under_left : (k l j c i r : ℕ) → j < N → 0 < refcount ws j → level j ≡ suc l → c ≡ left ws j → Under size ws k l c i r → Under size ws k (suc l) j i r
  unfolding Links child side
  under_left k l j c i r b p e q D =
      let F = (links_at R j (suc l) b p e).0 in
      let s : size c ≡ min (size j) (2 ^ l) = ap size q ∙ F.of_size in
      let y = D.leaf in
      let z : bit l y ≡ 0 = bit_low l y (omega (arith, D.among)) in
      record {
        leaf = y;
        among = omega (arith, D.among);
        lower = omega (arith, D.lower);
        found = walk_go k l ws j y D.lower ∙ ap (λ w. walk k l ws w y) (ap (child ws j) z ∙ sym q) ∙ D.found;
        low = D.low;
      }

  under_right : (k l j c i r : ℕ) → j < N → 0 < refcount ws j → level j ≡ suc l → c < N → c ≡ right ws j → Under size ws k l c i r → Under size ws k (suc l) j i r
  unfolding Links child side
  under_right k l j c i r b p e bc q D =
      let F = (right_at_some N level size l (size j - 2 ^ l) (right ws j) (omega arith) (links_at R j (suc l) b p e).1).1 in
      let t = size_bounds l (right ws j) F.inside (used_right R j (right ws j) b p F.inside (omega arith) refl) F.at_level in
      let s : size c ≡ size j - 2 ^ l = ap size q ∙ F.of_size in
      let y = D.leaf in
      let by : y < 2 ^ l = omega (arith, D.among, t.1, F.of_size) in
      let y' = 1 * 2 ^ l + y in
      let z : bit l y' ≡ 1 = bit_high l y by in
      let g : Agree 0 l y' y = low_agree l y' y (digits_mod 1 by ∙ sym (mod-eq_of_lt by)) in
      record {
        leaf = y';
        among = omega (arith, D.among);
        lower = omega (arith, D.lower);
        found = walk_go k l ws j y' D.lower ∙ ap (λ w. walk k l ws w y') (ap (child ws j) z ∙ sym q)
            ∙ walk_agree k l ws c y' y (λ i a b'. g i (omega arith) b') ∙ D.found;
        low = λ i a b'. g i a (omega (arith, D.lower)) ∙ D.low i a b';
      }

  -- the level of a node that links to c
  pub above : (j c l : ℕ) → j < N → 0 < refcount ws j → level j ≡ l → c < N → (c ≡ left ws j) ⊎ (c ≡ right ws j) → l ≡ suc (level c)
  above j c zero b p e bc (inl q) = absurd (omega (arith, (links_leaf N level size (size j) (left ws j) (right ws j) (links_at R j zero b p e)).0))
  above j c zero b p e bc (inr q) = absurd (omega (arith, (links_leaf N level size (size j) (left ws j) (right ws j) (links_at R j zero b p e)).1))
  above j c (suc l) b p e bc (inl q) = ap suc (sym (ap level q ∙ (links-left N level size l (size j) (left ws j) (right ws j) (links_at R j (suc l) b p e)).1))
  above j c (suc l) b p e bc (inr q) = ap suc (sym (ap level q ∙ (links-right N level size l (size j) (left ws j) (right ws j) (links_at R j (suc l) b p e) (omega arith)).1))

  -- a node in use that is no root has a node in use above it
  parent : (c k i r : ℕ) → c < N → 0 < refcount ws c → count c E ≡ 0 → Under size ws k (level c) c i r
      → (j : ℕ) × (j < N) × (0 < refcount ws j) × (level j ≡ suc (level c)) × Under size ws k (suc (level c)) j i r
  unfolding indegree
  parent c k i r b p o D =
      let J = sum_pos N (link ws c) (omega (arith, R.counts c b)) in
      let j = J.0 in
      let u : 0 < refcount ws j = link_inv ws c j J.2 in
      elim (ℕ_discrete c (left ws j)) [
        | yes q ↦ (let a = above j c (level j) J.1 u refl b (inl q) in (j, J.1, u, a, under_left k (level c) j c i r J.1 u a q D))
        | no q ↦ (
            let w : c ≡ right ws j = δ_eq c (right ws j) (omega (arith, J.2, link_pos ws c j u, δ_other c (left ws j) q)) in
            let a = above j c (level j) J.1 u refl b (inr w) in (j, J.1, u, a, under_right k (level c) j c i r J.1 u a b w D))
      ]

  module _ (rt : (e : ℕ) → 0 < count e E → (e < N) × (level e ≡ H)) where
    climb : (d c k i r : ℕ) → c < N → 0 < refcount ws c → level c + d ≡ H → Under size ws k (level c) c i r → (e : ℕ) × (0 < count e E) × Under size ws k H e i r
    climb zero c k i r b p s D = elim (ℕ_discrete (count c E) 0) [
      | no o ↦ (c, omega arith, subst (λ q. Under size ws k q c i r) (rt c (omega arith)).1 D)
      | yes o ↦ (let J = parent c k i r b p o D in absurd (omega (arith, R.bounded J.0 J.1 J.2, J.3)))
    ]
    climb (suc d) c k i r b p s D = elim (ℕ_discrete (count c E) 0) [
      | no o ↦ (c, omega arith, subst (λ q. Under size ws k q c i r) (rt c (omega arith)).1 D)
      | yes o ↦ (let J = parent c k i r b p o D in
          climb d J.0 k i r J.1 J.2 (omega (arith, J.3)) (subst (λ q. Under size ws k q J.0 i r) (sym J.3) J.4))
    ]

    from_root : (i r : ℕ) → i < N → 0 < refcount ws i → r < size i → (e : ℕ) × (0 < count e E) × Under size ws (level i) H e i r
    from_root i r b p h = climb (H - level i) i (level i) i r b p (omega (arith, R.bounded i b p))
        (record { leaf = r; among = h; lower = omega arith; found = walk_here (level i) (level i) ws i r (omega arith); low = λ m _ _. refl })

-- node i is on the way from a live root to a splitter, at level k
pub record ReachedAt (H n : ℕ) (ws E : List ℕ) (k i : ℕ) : Type 0 where
  pub root : ℕ
  pub splitter : ℕ
  pub live : 0 < count root E
  pub bound : splitter < n
  pub lower : k ≤ H
  pub found : walk k H ws root splitter ≡ i

module _ (N H n : ℕ) (small : N ≤ none) (cover : n ≤ 2 ^ H) {level size : ℕ → ℕ} {ws : List ℕ} {free : ℕ} {fs E : List ℕ} (L : Live N H n level size ws free fs E) where
  -- it is on the way to each of its leaves r
  pub reached_through : (i r : ℕ) → i < N → 0 < refcount ws i → r < size i → (A : ReachedAt H n ws E (level i) i) × Agree 0 (level i) A.splitter r
  reached_through i r b p h =
      let u = from_root small L.inv (λ e q. ((L.roots e q).inside, (L.roots e q).at_level)) i r b p h in
      (record { root = u.0; splitter = u.2.leaf; live = u.1; bound = omega (arith, u.2.among, (L.roots u.0 u.1).of_size); lower = u.2.lower; found = u.2.found }, u.2.low)

  pub in_use_reached : (i : ℕ) → i < N → 0 < refcount ws i → ReachedAt H n ws E (level i) i
  in_use_reached i b p = (reached_through i 0 b p (size_bounds small L.inv (level i) i b p refl).0).0

  pub reached_in_use : (k e y : ℕ) → k ≤ H → 0 < count e E → y < n → Covers N level size ws k y (walk k H ws e y)
  reached_in_use k e y h q b = covers_walk small L.inv k H y e h (root_covers N H n small cover L e y q b)

  -- the node is reached if and only if it is in use
  pub reached_iff : (i : ℕ) → i < N → (0 < refcount ws i) ↔ ((k : ℕ) × ReachedAt H n ws E k i)
  reached_iff i b = (
    (λ p. (level i, in_use_reached i b p)),
    (λ r. (let A = r.1 in subst (λ q. 0 < refcount ws q) A.found (reached_in_use r.0 A.root A.splitter A.lower A.live A.bound).in_use)),
  )

  -- with no live frame all nodes lie once on the free list
  pub all_free : E ≡ [] → (length fs ≡ N) × ((i : ℕ) → i < N → count i fs ≡ 1)
  unfolding nodes_used
  all_free e = (
    omega (arith, free_count L.inv, sum_zero N (λ i. when (refcount ws i) 1) (λ i b. when_zero (refcount ws i) 1 (unused i b))),
    λ i b. L.inv.listed i b ∙ δ₀_zero (refcount ws i) (unused i b),
  )
    where
      unused : (i : ℕ) → i < N → refcount ws i ≡ 0
      unused i b = elim (ℕ_discrete (refcount ws i) 0) [
        | yes z ↦ z
        | no z ↦ (let r = in_use_reached i b (omega arith) in absurd (omega (arith, r.live, ap (count r.root) e, count_nil r.root)))
      ]
