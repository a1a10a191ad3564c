-- A node that is reached from a live root through counts of one all the way stands in one place of one frame's tree.
use Rattle.std.specs.Prelude.{◌≡◌, refl, ◌≢◌, List, ◌∷◌, ℕ, zero, suc, ◌+◌, ◌-◌, ◌≤◌, ◌<◌, ◌^◌}
use Rattle.std.proofs.Common.{sym, ap, ◌∙◌, subst, arith}
use Rattle.std.proofs.Math.Decide.{ℕ_discrete}
use Rattle.words.specs.Basics.{none, sum, δ, count}
use Rattle.words.specs.Counting.{δ_same, δ_other, count_cons, sum_ge}
use Rattle.sizes.specs.Bits.{bit_lt, Agree}
use Rattle.sizes.specs.Sizes.{bit}
use Rattle.pool.specs.Pool.{refcount, left, right, side, child}
use Rattle.pool.specs.Theory.Invariant.{link, indegree, link_pos, indegree_ge}
use Rattle.pool.specs.Theory.Operations.{Live, root_covers}
use Rattle.pool.specs.Theory.Reached.{reached_in_use}
use Rattle.pool.specs.Theory.Walk.{walk, walk_here, walk_down, Covers}

-- from the root down to level k, every node on the way to x has one holder
abbrev pub Alone : ℕ → List ℕ → ℕ → ℕ → ℕ → Type 0
Alone H ws root x k = (m : ℕ) → k ≤ m → m ≤ H → refcount ws (walk m H ws root x) ≡ 1

-- the first node on the way that has more is of level m
pub record FirstShared (H : ℕ) (ws : List ℕ) (root x m : ℕ) : Type 0 where
  pub low : m ≤ H
  pub above : (i : ℕ) → m < i → i ≤ H → refcount ws (walk i H ws root x) ≡ 1
  pub shared : 1 < refcount ws (walk m H ws root x)

sum_two : (n i j : ℕ) (f : ℕ → ℕ) → i < n → j < n → i ≢ j → f i + f j ≤ sum n f
sum_two zero i j f a b o = absurd (omega arith)
sum_two (suc n) i j f a b o = elim (ℕ_discrete i n) [
  | yes e ↦ omega (arith, ap f e, sum_ge n j f (omega arith))
  | no e ↦ elim (ℕ_discrete j n) [
    | yes d ↦ omega (arith, ap f d, sum_ge n i f (omega arith))
    | no d ↦ omega (arith, sum_two n i j f (omega arith) (omega arith) o)
  ]
]

indegree_two : (N : ℕ) (ws : List ℕ) (w i j : ℕ) → i < N → j < N → i ≢ j → link ws w i + link ws w j ≤ indegree N ws w
unfolding indegree
indegree_two N ws w i j a b o = sum_two N i j (link ws w) a b o

-- the links of a node to its child
child_δ : (ws : List ℕ) (i b w : ℕ) → child ws i b ≡ w → 0 < δ w (left ws i) + δ w (right ws i)
unfolding child side
child_δ ws i zero w e = omega (arith, ap (δ w) e, δ_same w)
child_δ ws i (suc b) w e = omega (arith, ap (δ w) e, δ_same w)

both_δ : (ws : List ℕ) (i b d w : ℕ) → b < 2 → d < 2 → b ≢ d → child ws i b ≡ w → child ws i d ≡ w → δ w (left ws i) + δ w (right ws i) ≡ 2
unfolding child side
both_δ ws i zero zero w hb hd o e f = absurd (o refl)
both_δ ws i zero (suc d) w hb hd o e f = omega (arith, ap (δ w) e, ap (δ w) f, δ_same w)
both_δ ws i (suc b) zero w hb hd o e f = omega (arith, ap (δ w) e, ap (δ w) f, δ_same w)
both_δ ws i (suc b) (suc d) w hb hd o e f = absurd (omega arith)

module _ (N H n : ℕ) (small : N ≤ none) (cover : n ≤ 2 ^ H) {level size : ℕ → ℕ} {ws : List ℕ} {free : ℕ} {fs E : List ℕ} (root x : ℕ)
    (L : Live N H n level size ws free fs (root ∷ E)) (bx : x < n) where
  here : (e y : ℕ) → 0 < count e (root ∷ E) → y < n → (k : ℕ) → k ≤ H → Covers N level size ws k y (walk k H ws e y)
  here e y p b k h = reached_in_use N H n small cover L k e y h p b

  own_root : 0 < count root (root ∷ E)
  own_root = omega (arith, count_cons root root E, δ_same root)

  -- one level down: w is the child of u and of u', and has one holder
  only : (u u' b d w : ℕ) → u < N → u' < N → w < N → 0 < refcount ws u → 0 < refcount ws u' → b < 2 → d < 2 → child ws u b ≡ w → child ws u' d ≡ w → refcount ws w ≡ 1 → (u ≡ u') × (b ≡ d)
  only u u' b d w bu bu' bw pu pu' hb hd e f one =
      let c = L.inv.counts w bw in
      let z = δ_other w none (omega arith) in
      elim (ℕ_discrete u u') [
        | no o ↦ absurd (omega (arith, c, z, indegree_two N ws w u u' bu bu' o, link_pos ws w u pu, link_pos ws w u' pu', child_δ ws u b w e, child_δ ws u' d w f))
        | yes q ↦ elim (ℕ_discrete b d) [
          | yes r ↦ (q, r)
          | no r ↦ absurd (omega (arith, c, z, indegree_ge N ws w u bu, link_pos ws w u pu, both_δ ws u b d w hb hd r e (ap (λ i. child ws i d) q ∙ f)))
        ]
      ]

  at : (d k : ℕ) → k + d ≡ H → Alone H ws root x k → (e y : ℕ) → 0 < count e (root ∷ E) → y < n → walk k H ws e y ≡ walk k H ws root x → (count e E ≡ 0) × Agree k H x y
  at zero k s A e y p b q =
      let f : e ≡ root = sym (walk_here k H ws e y (omega arith)) ∙ q ∙ walk_here k H ws root x (omega arith) in
      let K = root_covers N H n small cover L root x own_root bx in
      let one : refcount ws root ≡ 1 = ap (refcount ws) (sym (walk_here k H ws root x (omega arith))) ∙ A k (omega arith) (omega arith) in
      (omega (arith, ap (λ i. count i E) f, L.inv.counts root K.inside, one, count_cons root root E, δ_same root, δ_other root none (omega (arith, K.inside))), λ m a c. absurd (omega arith))
  at (suc d) k s A e y p b q =
      let U = here root x own_root bx (suc k) (omega arith) in
      let W = here root x own_root bx k (omega arith) in
      let T = here e y p b (suc k) (omega arith) in
      let r = only (walk (suc k) H ws root x) (walk (suc k) H ws e y) (bit k x) (bit k y) (walk k H ws root x) U.inside T.inside W.inside U.in_use T.in_use (bit_lt k x) (bit_lt k y)
      (sym (walk_down k H ws root x (omega arith))) (sym (walk_down k H ws e y (omega arith)) ∙ q) (A k (omega arith) (omega arith)) in
      let i = at d (suc k) (omega arith) (λ m a c. A m (omega arith) c) e y p b (sym r.0) in
      (i.0, λ m a c. elim (ℕ_discrete m k) [ yes t ↦ ap (λ j. bit j x) t ∙ r.1 ∙ ap (λ j. bit j y) (sym t) | no t ↦ i.1 m (omega arith) c ])

  -- if it stands in the tree of e, on the way to y, then e is this frame's root and no other's, and the ways are the same
  pub alone : (k : ℕ) → k ≤ H → Alone H ws root x k → (e y : ℕ) → 0 < count e (root ∷ E) → y < n → walk k H ws e y ≡ walk k H ws root x → (count e E ≡ 0) × Agree k H x y
  alone k h A e y p b q = (let d : (d : ℕ) × (k + d ≡ H) = (H - k, omega arith) in at d.0 k d.1 A e y p b q)

  -- and so the node stands in one place of one frame's tree
  pub one_place_lem : (k : ℕ) → k ≤ H → Alone H ws root x k → (e j y : ℕ) → 0 < count e (root ∷ E) → j ≤ H → y < n → walk j H ws e y ≡ walk k H ws root x → (count e E ≡ 0) × (j ≡ k) × Agree k H x y
  one_place_lem k h A e j y p a b q =
      let t : j ≡ k = sym (here e y p b j a).at_level ∙ ap level q ∙ (here root x own_root bx k h).at_level in
      let r = alone k h A e y p b (subst (λ i. walk i H ws e y ≡ walk k H ws root x) t q) in
      (r.0, t, r.1)
