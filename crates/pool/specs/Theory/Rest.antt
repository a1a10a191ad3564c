-- The rest of a write's path that is new has as many nodes as the write adds to the model's nodes in use.
use Rattle.std.specs.Prelude.{◌≡◌, ◌≢◌, ◌⊎◌, true, false, cond, List, ◌∷◌, map}
use Rattle.std.proofs.Math.Path.{refl, sym, ap}
use Rattle.std.proofs.Common.{◌∙◌, subst, div-mul-le_self, pow_pos}
use Rattle.std.proofs.Math.Logic.{inl, inr}
use mathlib.Core.List.Memᴰ.{head as here}
use mathlib.Core.List.Memᴰ.{tail as there}
use mathlib.Core.List.{Memᴰ as In}
use mathlib.Core.List.Memᴰ
use Prim.Native.Nat.{ℕ, zero, suc, ◌+◌, ◌-◌, ◌*◌, ◌≤◌, ◌<◌, ◌^◌, ◌/◌}
use native.Mathlib.Omega.{arith}
use Rattle.std.proofs.Math.Decide.{ℕ_discrete, dec_le}
use Rattle.words.specs.Basics.{none, sum, distinct, among, δ, count}
use Rattle.words.specs.Counting.{δ_same, δ_other, δ_eq, count_cons, sum_cong, sum_upd, sum_add, sum_pos, hit as cond_yes, miss as cond_no}
use Rattle.words.specs.Distinct.{among→In, In→among, distinct_in, distinct_out}
use Rattle.words.specs.Tests.{decided}
use Rattle.sizes.specs.Bits.{bit_lt, Agree, group_agree}
use Rattle.sizes.specs.Heights.{height_covers}
use Rattle.sizes.specs.Sizes.{bit, height, width}
use Rattle.sizes.specs.Widths.{width_in}
use Rattle.model.specs.History.{Mark, Event, History, last_write, nodes_in_use}
use Rattle.pool.specs.Pool.{refcount, left, right, side, child, sibling, rest}
use Rattle.pool.specs.Theory.Alone.{alone}
use Rattle.pool.specs.Theory.InUse.{histories_of}
use Rattle.pool.specs.Theory.Invariant.{Links, link, indegree, right_at_some, links_at, link_pos, link_inv}
use Rattle.pool.specs.Theory.Operations.{Live, root_covers}
use Rattle.pool.specs.Theory.PathNode.{child-sibling}
use Rattle.pool.specs.Theory.Reached.{above, bit_low, bit_high, size_bounds, reached_through, reached_in_use}
use Rattle.pool.specs.Theory.Sharing.{Frame, roots_of, root_of_lem, frame_of_lem, last_write_hit, last_write_miss, last_write_from, Fresh, Share, same-node}
use Rattle.pool.specs.Theory.Walk.{walk, walk_here, walk_down, walk_split, walk_agree, Covers}
use Rattle.pool.specs.Theory.Write.{child-sum, rest_by}

-- ---- sums

-- another positive term
sum_other : (n k : ℕ) (f : ℕ → ℕ) → f k < sum n f → (j : ℕ) × (j < n) × (j ≢ k) × (0 < f j)
sum_other zero k f h = absurd (omega arith)
sum_other (suc n) k f h = elim (ℕ_discrete k n) [
  | yes e ↦ (let r = sum_pos n f (omega (arith, ap f e)) in (r.0, omega (arith, r.1), omega (arith, r.1), r.2))
  | no e ↦ elim (ℕ_discrete (f n) 0) [
    | yes z ↦ (let r = sum_other n k f (omega arith) in (r.0, omega (arith, r.1), r.2, r.3))
    | no z ↦ (n, omega arith, omega arith, omega arith)
  ]
]

-- the first m terms are 1 and the others 0
sum_ones : (n m : ℕ) (f : ℕ → ℕ) → m ≤ n → ((l : ℕ) → l < m → f l ≡ 1) → ((l : ℕ) → m ≤ l → l < n → f l ≡ 0) → sum n f ≡ m
sum_ones zero m f h a b = omega arith
sum_ones (suc n) m f h a b = elim (dec_le m n) [
  | yes c ↦ omega (arith, sum_ones n m f c a (λ l p q. b l p (omega arith)), b n c (omega arith))
  | no c ↦ omega (arith, sum_ones n n f (omega arith) (λ l p. a l (omega arith)) (λ l p q. absurd (omega arith)), a n (omega arith))
]

-- ---- the model: a write adds one at each level where the last write to its group is another frame's too

abbrev marks_at : ℕ → ℕ → List History → List Mark
marks_at l g hs = map (last_write l g) hs

module _ (n : ℕ) (e : Event) (h : History) (hs : List History) (bx : e.splitter < n) (new : (l g : ℕ) → among e.mark (marks_at l g hs) ≡ false) where
  abbrev both : ℕ → ℕ
  both l = cond (among (last_write l (e.splitter / 2 ^ l) h) (marks_at l (e.splitter / 2 ^ l) hs)) 1 0

  off : (l g : ℕ) → g ≢ e.splitter / 2 ^ l → distinct (marks_at l g ((e ∷ h) ∷ hs)) ≡ distinct (marks_at l g (h ∷ hs))
  off l g o = ap (λ m. distinct (m ∷ marks_at l g hs)) (last_write_miss l g e h (λ t. o (sym t)))

  hit : (l : ℕ) → distinct (marks_at l (e.splitter / 2 ^ l) ((e ∷ h) ∷ hs)) ≡ distinct (marks_at l (e.splitter / 2 ^ l) (h ∷ hs)) + both l
  hit l =
      let g = e.splitter / 2 ^ l in
      let d = distinct_out e.mark (marks_at l g hs) (new l g) in
      ap (λ m. distinct (m ∷ marks_at l g hs)) (last_write_hit l g e h refl) ∙ elim (decided (among (last_write l g h) (marks_at l g hs))) [
        | inl t ↦ rw t (omega (arith, d, distinct_in (last_write l g h) (marks_at l g hs) t))
        | inr t ↦ rw t (omega (arith, d, distinct_out (last_write l g h) (marks_at l g hs) t))
      ]

  level_sum : (l : ℕ) → sum (width n l) (λ g. distinct (marks_at l g ((e ∷ h) ∷ hs))) ≡ sum (width n l) (λ g. distinct (marks_at l g (h ∷ hs))) + both l
  level_sum l =
      let g = e.splitter / 2 ^ l in
      omega (
        arith,
        hit l,
        sum_upd (width n l) g (λ g. distinct (marks_at l g ((e ∷ h) ∷ hs))) (λ g. distinct (marks_at l g (h ∷ hs)))
            (width_in n l g (omega (arith, div-mul-le_self e.splitter (2 ^ l)))) (λ j _ o. off l j o),
      )

  in_use_sum : nodes_in_use n ((e ∷ h) ∷ hs) ≡ nodes_in_use n (h ∷ hs) + sum (suc (height n)) both
  unfolding nodes_in_use
  in_use_sum = sum_cong (suc (height n)) (λ l. sum (width n l) (λ g. distinct (marks_at l g ((e ∷ h) ∷ hs)))) (λ l. sum (width n l) (λ g. distinct (marks_at l g (h ∷ hs))) + both l) (λ l _. level_sum l)
      ∙ sum_add (suc (height n)) (λ l. sum (width n l) (λ g. distinct (marks_at l g (h ∷ hs)))) both

-- ---- the pool

child-side : (ws : List ℕ) (j d i : ℕ) → child ws j d ≡ i → (i ≡ left ws j) ⊎ (i ≡ right ws j)
unfolding child side
child-side ws j zero i e = inl (sym e)
child-side ws j (suc d) i e = inr (sym e)

module _ (N H n : ℕ) (small : N ≤ none) (cover : n ≤ 2 ^ H) {level size : ℕ → ℕ} {ws : List ℕ} {free : ℕ} {fs : List ℕ} (root : ℕ) (h : History) (Fs : List Frame) (x : ℕ)
    (L : Live N H n level size ws free fs (roots_of ((root, h) ∷ Fs))) (S : Share N H n level ws ((root, h) ∷ Fs)) (bx : x < n) where
  root_in : 0 < count root (roots_of ((root, h) ∷ Fs))
  root_in = root_of_lem (root, h) ((root, h) ∷ Fs) (here refl)

  on : (m : ℕ) → m ≤ H → Covers N level size ws m x (walk m H ws root x)
  on m a = reached_in_use N H n small cover L m root x a root_in bx

  -- leaf r of j, on the side d where its child is i
  leaf_on : (m j d i : ℕ) → d < 2 → j < N → 0 < refcount ws j → level j ≡ suc m → i < N → child ws j d ≡ i → (r : ℕ) × (r < size j) × (bit m r ≡ d)
  unfolding child side Links
  leaf_on m j zero i hd b p e bi c = (0, (size_bounds small L.inv (suc m) j b p e).0, bit_low m 0 (pow_pos m))
  leaf_on m j (suc zero) i hd b p e bi c =
      let F = right_at_some N level size m (size j - 2 ^ m) (right ws j) (omega arith) (links_at L.inv j (suc m) b p e).1 in
      (1 * 2 ^ m + 0, omega (arith, F.0), bit_high m 0 (pow_pos m))
  leaf_on m j (suc (suc d)) i hd b p e bi c = absurd (omega arith)

  -- a link to the path's node of level m, from j, which is reached from e on the way to y: if it is not the path's own, e is another frame's
  -- root, and has the node at the same place
  from_another : (m j d e y : ℕ) → m < H → child ws j d ≡ walk m H ws root x → 0 < count e (roots_of ((root, h) ∷ Fs)) → y < n → walk (suc m) H ws e y ≡ j → bit m y ≡ d
      → (j ≢ walk (suc m) H ws root x) ⊎ (d ≢ bit m x) → (e : ℕ) × (0 < count e (roots_of Fs)) × (walk m H ws e x ≡ walk m H ws root x)
  from_another m j d e y a c p b up by o = elim (ℕ_discrete (count e (roots_of Fs)) 0) [
    | no q ↦ (e, omega arith, walk_agree m H ws e x y A ∙ dn)
    | yes q ↦ absurd (mine (δ_eq e root (omega (arith, count_cons e root (roots_of Fs)))) o)
  ]
    where
      dn : walk m H ws e y ≡ walk m H ws root x
      dn = walk_down m H ws e y a ∙ ap (λ i. child ws i (bit m y)) up ∙ ap (child ws j) by ∙ c

      A : Agree m H x y
      A =
          let F = frame_of_lem e ((root, h) ∷ Fs) p in
          group_agree m H x y (sym (S.stamped (root, h) (here refl) m x (omega arith) bx).1 ∙ ap S.group (sym dn ∙ ap (λ i. walk m H ws i y) F.2) ∙ (S.stamped F.0 F.1 m y (omega arith) b).1)

      mine : e ≡ root → (j ≢ walk (suc m) H ws root x) ⊎ (d ≢ bit m x) → ⊥
      mine q (inl o) = o (sym up ∙ ap (λ i. walk (suc m) H ws i y) q ∙ sym (walk_agree (suc m) H ws root x y (λ i u w. A i (omega arith) w)))
      mine q (inr o) = o (sym by ∙ sym (A m (omega arith) a))

  elsewhere : (m j d : ℕ) → m < H → d < 2 → j < N → 0 < refcount ws j → child ws j d ≡ walk m H ws root x → (j ≢ walk (suc m) H ws root x) ⊎ (d ≢ bit m x)
      → (e : ℕ) × (0 < count e (roots_of Fs)) × (walk m H ws e x ≡ walk m H ws root x)
  elsewhere m j d a hd b p c o =
      let C = on m (omega arith) in
      let lj : level j ≡ suc m = above small L.inv j (walk m H ws root x) (level j) b p refl C.inside (child-side ws j d (walk m H ws root x) c) ∙ ap suc C.at_level in
      let r = leaf_on m j d (walk m H ws root x) hd b p lj C.inside c in
      let T = reached_through N H n small cover L j r.0 b p r.1 in
      from_another m j d T.0.root T.0.splitter a c T.0.live T.0.bound (subst (λ k. walk k H ws T.0.root T.0.splitter ≡ j) lj T.0.found) (T.1 m (omega arith) (omega (arith, lj)) ∙ r.2) o

  -- a node of the path with more than one holder is in another frame's tree too, at the same place
  in_another : (m : ℕ) → m ≤ H → 1 < refcount ws (walk m H ws root x) → (e : ℕ) × (0 < count e (roots_of Fs)) × (walk m H ws e x ≡ walk m H ws root x)
  unfolding indegree
  in_another m a big = elim (dec_le H m) [
    | yes t ↦ (let r : walk m H ws root x ≡ root = walk_here m H ws root x t in elim (ℕ_discrete (count root (roots_of Fs)) 0) [
      | no q ↦ (root, omega arith, refl)
      | yes q ↦ absurd (
          let J = sum_pos N (link ws root) (omega (arith, big, ap (refcount ws) r, L.inv.counts root K.inside, count_cons root root (roots_of Fs), δ_same root, δ_other root none (omega (arith, K.inside)))) in
          let u = link_inv ws root J.0 J.2 in
          omega (arith, L.inv.bounded J.0 J.1 u, K.at_level, above small L.inv J.0 root (level J.0) J.1 u refl K.inside (side_of J.0 root u J.2)))
    ])
    | no t ↦ (
        let C = on m a in
        let Q = on (suc m) (omega arith) in
        let s = walk m H ws root x in
        let q = walk (suc m) H ws root x in
        let two : 1 < sum N (link ws s) = omega (arith, big, L.inv.counts s C.inside, no_root m (omega arith), δ_other s none (omega (arith, C.inside))) in
        let c : child ws q (bit m x) ≡ s = sym (walk_down m H ws root x (omega arith)) in
        let sb = bit_lt m x in
        elim (ℕ_discrete s (sibling ws q (bit m x))) [
          | yes e ↦ elsewhere m q (1 - bit m x) (omega arith) (omega arith) Q.inside Q.in_use (child-sibling ws q (bit m x) (1 - bit m x) sb (omega arith) (omega arith) ∙ sym e) (inr (omega arith))
          | no e ↦ (
              let J = sum_other N q (link ws s) (omega (arith, link_pos ws s q Q.in_use, child-sum ws q (bit m x) s, ap (δ s) c, δ_same s, δ_other s (sibling ws q (bit m x)) e)) in
              let u = link_inv ws s J.0 J.3 in
              elim (side_of J.0 s u J.3) [
                | inl w ↦ elsewhere m J.0 0 (omega arith) (omega arith) J.1 u (unfold child side in sym w) (inl J.2)
                | inr w ↦ elsewhere m J.0 1 (omega arith) (omega arith) J.1 u (unfold child side in sym w) (inl J.2)
              ])
        ])
  ]
    where
      K : Covers N level size ws H x root
      K = root_covers N H n small cover L root x root_in bx

      side_of : (j i : ℕ) → 0 < refcount ws j → 0 < link ws i j → (i ≡ left ws j) ⊎ (i ≡ right ws j)
      side_of j i u p = elim (ℕ_discrete i (left ws j)) [ yes e ↦ inl e | no e ↦ inr (δ_eq i (right ws j) (omega (arith, link_pos ws i j u, δ_other i (left ws j) e))) ]

      no_root : (m : ℕ) → m < H → count (walk m H ws root x) (roots_of ((root, h) ∷ Fs)) ≡ 0
      no_root m a = elim (ℕ_discrete (count (walk m H ws root x) (roots_of ((root, h) ∷ Fs))) 0) [
        | yes e ↦ e
        | no e ↦ absurd (omega (arith, (L.roots (walk m H ws root x) (omega arith)).at_level, (on m (omega arith)).at_level))
      ]

  -- another frame has the last write to x's group at level l where it has the node of the path
  shares : (l e : ℕ) → l ≤ H → 0 < count e (roots_of Fs) → walk l H ws e x ≡ walk l H ws root x → among (last_write l (x / 2 ^ l) h) (marks_at l (x / 2 ^ l) (histories_of Fs)) ≡ true
  shares l e a p q =
      let F = frame_of_lem e Fs p in
      let t = ((same-node N H n small cover {Fs = (root, h) ∷ Fs} L S F.0 (root, h) (there F.1) (here refl) l x l x a bx a bx).0 (ap (λ i. walk l H ws i x) (sym F.2) ∙ q)).2 in
      In→among (subst (λ m. In m (marks_at l (x / 2 ^ l) (histories_of Fs))) t (Memᴰ.map (last_write l (x / 2 ^ l)) (Memᴰ.map (λ (F : Frame). F.1) F.1)))

  -- and no other has where the node stands there alone
  keeps : (l : ℕ) → l ≤ H → ((i : ℕ) → l ≤ i → i ≤ H → refcount ws (walk i H ws root x) ≡ 1) → among (last_write l (x / 2 ^ l) h) (marks_at l (x / 2 ^ l) (histories_of Fs)) ≡ false
  keeps l a A = elim (decided (among (last_write l (x / 2 ^ l) h) (marks_at l (x / 2 ^ l) (histories_of Fs)))) [
    | inr f ↦ f
    | inl t ↦ absurd (
        let g = Memᴰ.of_map (last_write l (x / 2 ^ l)) (histories_of Fs) (among→In (last_write l (x / 2 ^ l) h) (marks_at l (x / 2 ^ l) (histories_of Fs)) t) in
        let F = Memᴰ.of_map (λ (F : Frame). F.1) Fs g.1 in
        let q = (same-node N H n small cover {Fs = (root, h) ∷ Fs} L S F.0 (root, h) (there F.1) (here refl) l x l x a bx a bx).1 (refl, refl, ap (last_write l (x / 2 ^ l)) F.2 ∙ g.2) in
        omega (arith, (alone N H n small cover root x L bx l a A F.0.0 x (root_of_lem F.0 ((root, h) ∷ Fs) (there F.1)) bx q).0, root_of_lem F.0 Fs F.1))
  ]

  both_rest : sum (suc H) (λ l. cond (among (last_write l (x / 2 ^ l) h) (marks_at l (x / 2 ^ l) (histories_of Fs))) 1 0) ≡ rest H ws root x
  both_rest = elim (rest_by N H n small cover level size ws free 0 fs (roots_of Fs) root x 0 L bx) [
    | inl w ↦ sum_ones (suc H) 0 (λ l. cond (among (last_write l (x / 2 ^ l) h) (marks_at l (x / 2 ^ l) (histories_of Fs))) 1 0) (omega arith)
        (λ l b. absurd (omega arith)) (λ l _ b. cond_no (keeps l (omega arith) (λ i c d. w.0 i (omega arith) d))) ∙ sym w.1
    | inr w ↦ (let e = in_another w.0 w.1.low w.1.shared in
        sum_ones (suc H) (suc w.0) (λ l. cond (among (last_write l (x / 2 ^ l) h) (marks_at l (x / 2 ^ l) (histories_of Fs))) 1 0) (omega (arith, w.1.low))
        (λ l b. cond_yes (shares l e.0 (omega (arith, w.1.low)) e.1
        (walk_split l w.0 H ws e.0 x (omega arith) w.1.low ∙ ap (λ i. walk l w.0 ws i x) e.2 ∙ sym (walk_split l w.0 H ws root x (omega arith) w.1.low))))
        (λ l a b. cond_no (keeps l (omega arith) (λ i c d. w.1.above i (omega arith) d))) ∙ sym w.2)
  ]

-- a fresh mark is no last write
fresh_out : (root : ℕ) (h : History) (Fs : List Frame) (m : Mark) → Fresh m ((root, h) ∷ Fs) → (l g : ℕ) → among m (marks_at l g (histories_of Fs)) ≡ false
fresh_out root h Fs m fresh l g = elim (decided (among m (marks_at l g (histories_of Fs)))) [
  | inr f ↦ f
  | inl t ↦ (
      let G = Memᴰ.of_map (last_write l g) (histories_of Fs) (among→In m (marks_at l g (histories_of Fs)) t) in
      let F = Memᴰ.of_map (λ (F : Frame). F.1) Fs G.1 in
      elim (last_write_from l g G.0) [
        | inl z ↦ absurd (fresh.0 (sym G.2 ∙ z))
        | inr w ↦ absurd (fresh.1 F.0 (there F.1) w.0 (subst (In w.0) (sym F.2) w.1) (sym w.2 ∙ G.2))
      ])
]

module _ (N n : ℕ) (small : N ≤ none) {level size : ℕ → ℕ} {ws : List ℕ} {free : ℕ} {fs : List ℕ} (root : ℕ) (h : History) (Fs : List Frame) (e : Event) (bx : e.splitter < n) where
  -- document 02, R-2: "Nodes in use after a write are as before, so the plain machine's count goes on being the measure"
  pub rest-counted : Live N (height n) n level size ws free fs (roots_of ((root, h) ∷ Fs)) → Share N (height n) n level ws ((root, h) ∷ Fs) → Fresh e.mark ((root, h) ∷ Fs)
      → nodes_in_use n ((e ∷ h) ∷ histories_of Fs) ≡ nodes_in_use n (h ∷ histories_of Fs) + rest (height n) ws root e.splitter
  rest-counted L S fresh =
      in_use_sum n e h (histories_of Fs) bx (fresh_out root h Fs e.mark fresh)
      ∙ ap (λ r. nodes_in_use n (h ∷ histories_of Fs) + r) (both_rest N (height n) n small (height_covers n) root h Fs e.splitter L S bx)
