-- R-8: the nodes of trees of two-word nodes, level by level, beside the same trees of four-word nodes.
use Rattle.std.specs.Prelude.{◌≡◌, ◌≢◌, true, cond}
use Rattle.std.proofs.Math.Path.{refl, sym, ap₂}
use Rattle.std.proofs.Common.{ap, ◌∙◌, subst, eq-eqb, ne_eqb}
use Rattle.std.proofs.Math.Logic.{inl, inr}
use Rattle.std.proofs.Math.Bool.{false}
use mathlib.Core.List.{List, [], ◌∷◌}
use Prim.Native.Nat.{ℕ, zero, suc, ◌+◌, ◌*◌, ◌≤◌, ◌<◌, ◌^◌}
use native.Mathlib.Omega.{arith}
use Rattle.std.proofs.Math.Decide.{ℕ_discrete, dec_lt}
use Rattle.words.specs.Basics.{none, sum, δ, count}
use Rattle.words.specs.Tests.{decided, lt_of, ltb_of, nltb_of, true≢false}
use Rattle.words.specs.Counting.{δ_same, δ_other, δ_eq, δ₀, δ₀_zero, δ₀_pos, when_zero, when_pos, count_nil, count_cons, count-append, sum_cong, sum_add, sum_zero, sum_ge, sum_pos, how_many-some}
use Rattle.words.specs.Tallies.{how_many_pos, some_at, some_of}
use Rattle.sizes.specs.Sizes.{height}
use Rattle.pool.specs.Pool as Four
use Rattle.pool.specs.Theory.Trees.{nodes_of, reached_nodes, reached_link, visits, nodes_leaf, nodes_two, nodes_one}
use Rattle.packed.specs.Pool.{left, right}
use Rattle.soundness.specs.PackedTrees.{nodes_on, reached_on, is_on, is_inner, levels_of, holders}

-- ---- one level of a tree

module _ (n : ℕ) (ws : List ℕ) where
  pub on_here : (l g c i : ℕ) → count i (nodes_on n ws l l g c) ≡ δ i c
  unfolding nodes_on
  on_here zero g c i = omega (arith, count_cons i c [], count_nil i)
  on_here (suc l) g c i = rw (eq-eqb (suc l) (suc l) refl, nodes_on) (omega (arith, count_cons i c [], count_nil i))

  pub on_two : (k l g c i : ℕ) → k ≢ suc l → (2 * g + 1) * 2 ^ l < n
      → count i (nodes_on n ws k (suc l) g c) ≡ count i (nodes_on n ws k l (2 * g) (left ws c)) + count i (nodes_on n ws k l (2 * g + 1) (right ws c))
  unfolding nodes_on
  on_two k l g c i o h = rw (ne_eqb k (suc l) o, ltb_of h, nodes_on) (count-append i (nodes_on n ws k l (2 * g) (left ws c)) (nodes_on n ws k l (2 * g + 1) (right ws c)))

  pub on_one : (k l g c i : ℕ) → k ≢ suc l → n ≤ (2 * g + 1) * 2 ^ l → count i (nodes_on n ws k (suc l) g c) ≡ count i (nodes_on n ws k l (2 * g) (left ws c))
  unfolding nodes_on
  on_one k l g c i o h = rw (ne_eqb k (suc l) o, nltb_of h, nodes_on) (omega (arith, count-append i (nodes_on n ws k l (2 * g) (left ws c)) [], count_nil i))

  -- no node is above the root
  pub on_none : (k l g c i : ℕ) → l < k → count i (nodes_on n ws k l g c) ≡ 0
  on_none k zero g c i h = unfold nodes_on in rw (ne_eqb k 0 (omega arith)) (count_nil i)
  on_none k (suc l) g c i h = elim (dec_lt ((2 * g + 1) * 2 ^ l) n) [
    | yes q ↦ omega (arith, on_two k l g c i (omega arith) q, on_none k l (2 * g) (left ws c) i (omega arith), on_none k l (2 * g + 1) (right ws c) i (omega arith))
    | no q ↦ omega (arith, on_one k l g c i (omega arith) (omega arith), on_none k l (2 * g) (left ws c) i (omega arith))
  ]

  pub on_left_lem : (k l g c i : ℕ) → 0 < count i (nodes_on n ws k l (2 * g) (left ws c)) → 0 < count i (nodes_on n ws k (suc l) g c)
  on_left_lem k l g c i p = elim (ℕ_discrete k (suc l)) [
    | yes e ↦ absurd (omega (arith, on_none k l (2 * g) (left ws c) i (omega arith)))
    | no e ↦ elim (dec_lt ((2 * g + 1) * 2 ^ l) n) [ yes q ↦ omega (arith, on_two k l g c i e q) | no q ↦ omega (arith, on_one k l g c i e (omega arith)) ]
  ]

  pub on_right : (k l g c i : ℕ) → (2 * g + 1) * 2 ^ l < n → 0 < count i (nodes_on n ws k l (2 * g + 1) (right ws c)) → 0 < count i (nodes_on n ws k (suc l) g c)
  on_right k l g c i q p = elim (ℕ_discrete k (suc l)) [
    | yes e ↦ absurd (omega (arith, on_none k l (2 * g + 1) (right ws c) i (omega arith)))
    | no e ↦ omega (arith, on_two k l g c i e q)
  ]

  -- what holds of a tree that has i on level k, if it holds where i is its root, and goes up from the left tree and from the right tree
  pub on_cases : (P : ℕ → ℕ → ℕ → Type 0) (k i : ℕ) → ((g : ℕ) → P k g i)
      → ((l g c : ℕ) → P l (2 * g) (left ws c) → P (suc l) g c)
      → ((l g c : ℕ) → (2 * g + 1) * 2 ^ l < n → P l (2 * g + 1) (right ws c) → P (suc l) g c)
      → (l g c : ℕ) → 0 < count i (nodes_on n ws k l g c) → P l g c
  on_cases P k i root on_left onRight zero g c o = elim (ℕ_discrete k 0) [
    | yes e ↦ (let q : i ≡ c = δ_eq i c (omega (arith, ap (λ q. count i (nodes_on n ws q 0 g c)) e, on_here 0 g c i)) in subst (λ q. P zero g q) q (subst (λ q. P q g i) e (root g)))
    | no e ↦ absurd (omega (arith, on_none k 0 g c i (omega arith)))
  ]
  on_cases P k i root on_left onRight (suc l) g c o = elim (ℕ_discrete k (suc l)) [
    | yes e ↦ (let q : i ≡ c = δ_eq i c (omega (arith, ap (λ q. count i (nodes_on n ws q (suc l) g c)) e, on_here (suc l) g c i)) in subst (λ q. P (suc l) g q) q (subst (λ q. P q g i) e (root g)))
    | no e ↦ elim (ℕ_discrete (count i (nodes_on n ws k l (2 * g) (left ws c))) 0) [
      | no a ↦ on_left l g c (on_cases P k i root on_left onRight l (2 * g) (left ws c) (omega arith))
      | yes a ↦ elim (dec_lt ((2 * g + 1) * 2 ^ l) n) [
        | yes h ↦ onRight l g c h (on_cases P k i root on_left onRight l (2 * g + 1) (right ws c) (omega (arith, on_two k l g c i e h)))
        | no h ↦ absurd (omega (arith, on_one k l g c i e (omega arith)))
      ]
    ]
  ]

  -- ---- the trees of some roots

  -- a node that is reached is in a root's tree, and the other way round
  pub on_root : (k i : ℕ) (rs : List ℕ) → 0 < count i (reached_on n ws rs k) → (e : ℕ) × (0 < count e rs) × (0 < count i (nodes_on n ws k (height n) 0 e))
  on_root k i [] p = absurd (omega (arith, count_nil i))
  on_root k i (r ∷ rs) p = elim (ℕ_discrete (count i (nodes_on n ws k (height n) 0 r)) 0) [
    | no q ↦ (r, omega (arith, count_cons r r rs, δ_same r), omega arith)
    | yes q ↦ (let w = on_root k i rs (omega (arith, count-append i (nodes_on n ws k (height n) 0 r) (reached_on n ws rs k))) in (w.0, omega (arith, w.1, count_cons w.0 r rs), w.2))
  ]

  pub root_on : (k i e : ℕ) (rs : List ℕ) → 0 < count e rs → 0 < count i (nodes_on n ws k (height n) 0 e) → 0 < count i (reached_on n ws rs k)
  root_on k i e [] p q = absurd (omega (arith, count_nil e))
  root_on k i e (r ∷ rs) p q = elim (ℕ_discrete e r) [
    | yes d ↦ omega (arith, ap (λ c. count i (nodes_on n ws k (height n) 0 c)) d, count-append i (nodes_on n ws k (height n) 0 r) (reached_on n ws rs k))
    | no d ↦ omega (arith, count-append i (nodes_on n ws k (height n) 0 r) (reached_on n ws rs k), root_on k i e rs (omega (arith, count_cons e r rs, δ_other e r d)) q)
  ]

  pub on_low : (k i : ℕ) (rs : List ℕ) → 0 < count i (reached_on n ws rs k) → k ≤ height n
  on_low k i rs p = (let w = on_root k i rs p in elim (dec_lt (height n) k) [ yes q ↦ absurd (omega (arith, w.2, on_none k (height n) 0 w.0 i q)) | no q ↦ omega arith ])

-- ---- tests of levels

module _ (n : ℕ) (ws rs : List ℕ) (i : ℕ) where
  pub is_on_lem : (k : ℕ) → 0 < count i (reached_on n ws rs k) → is_on n ws rs i k ≡ true
  unfolding is_on
  is_on_lem k p = ltb_of p

  pub on_is : (k : ℕ) → is_on n ws rs i k ≡ true → 0 < count i (reached_on n ws rs k)
  unfolding is_on
  on_is k e = lt_of e

  pub is_inner_lem : (k : ℕ) → 0 < count i (reached_on n ws rs (suc k)) → is_inner n ws rs i ≡ true
  is_inner_lem k p = some_of (height n) (λ k. is_on n ws rs i (suc k)) k (omega (arith, on_low n ws (suc k) i rs p)) (is_on_lem (suc k) p)

  pub inner_is : is_inner n ws rs i ≡ true → (k : ℕ) × (k < height n) × (0 < count i (reached_on n ws rs (suc k)))
  inner_is e = (let w = some_at (height n) (λ k. is_on n ws rs i (suc k)) e in (w.0, w.1, on_is (suc w.0) w.2))

  pub on_levels : (k : ℕ) → 0 < count i (reached_on n ws rs k) → 0 < levels_of n ws rs i
  on_levels k p = how_many_pos (suc (height n)) k (is_on n ws rs i) (omega (arith, on_low n ws k i rs p)) (is_on_lem k p)

  pub levels_on : 0 < levels_of n ws rs i → (k : ℕ) × (0 < count i (reached_on n ws rs k))
  levels_on p = (let w = how_many-some (suc (height n)) (is_on n ws rs i) p in (w.0, on_is w.0 w.2))

-- ---- the same trees in four words

module _ (n : ℕ) (ws₂ ws₄ : List ℕ) where
  abbrev pub SameLinks : ℕ → Type 0
  SameLinks j = (left ws₂ j ≡ Four.left ws₄ j) × (right ws₂ j ≡ Four.right ws₄ j)

  -- the nodes of a tree are those of its levels
  nodes_levels : (l g c i : ℕ) → ((k j : ℕ) → 0 < count j (nodes_on n ws₂ (suc k) l g c) → SameLinks j)
      → count i (nodes_of n ws₄ l g c) ≡ sum (suc l) (λ k. count i (nodes_on n ws₂ k l g c))
  nodes_levels zero g c i S = omega (arith, nodes_leaf n ws₄ g c i, on_here n ws₂ 0 g c i)
  nodes_levels (suc l) g c i S =
      let e = S l c (omega (arith, on_here n ws₂ (suc l) g c c, δ_same c)) in
      let f : ℕ → ℕ = (λ k. count i (nodes_on n ws₂ k (suc l) g c)) in
      let a : ℕ → ℕ = (λ k. count i (nodes_on n ws₂ k l (2 * g) (left ws₂ c))) in
      let b : ℕ → ℕ = (λ k. count i (nodes_on n ws₂ k l (2 * g + 1) (right ws₂ c))) in
      let A = nodes_levels l (2 * g) (left ws₂ c) i (λ k j p. S k j (on_left_lem n ws₂ (suc k) l g c j p)) in
      let A' = ap (λ q. count i (nodes_of n ws₄ l (2 * g) q)) e.0 in
      elim (dec_lt ((2 * g + 1) * 2 ^ l) n) [
        | yes h ↦ omega (
          arith,
          nodes_two n ws₄ l g c i h,
          A,
          A',
          nodes_levels l (2 * g + 1) (right ws₂ c) i (λ k j p. S k j (on_right n ws₂ (suc k) l g c j h p)),
          ap (λ q. count i (nodes_of n ws₄ l (2 * g + 1) q)) e.1,
          sum_cong (suc l) f (λ k. a k + b k) (λ k q. on_two n ws₂ k l g c i (omega arith) h),
          sum_add (suc l) a b,
          on_here n ws₂ (suc l) g c i,
        )
        | no h ↦ omega (arith, nodes_one n ws₄ l g c i (omega arith), A, A', sum_cong (suc l) f a (λ k q. on_one n ws₂ k l g c i (omega arith) (omega arith)), on_here n ws₂ (suc l) g c i)
      ]

  visits_levels : (rs : List ℕ) (i : ℕ) → ((k j : ℕ) → 0 < count j (reached_on n ws₂ rs (suc k)) → SameLinks j)
      → visits n (height n) ws₄ rs i ≡ sum (suc (height n)) (λ k. count i (reached_on n ws₂ rs k))
  unfolding reached_nodes
  visits_levels [] i S = count_nil i ∙ sym (sum_zero (suc (height n)) (λ k. count i []) (λ k b. count_nil i))
  visits_levels (r ∷ rs) i S =
      let H = height n in
      let a : ℕ → ℕ = (λ k. count i (nodes_on n ws₂ k H 0 r)) in
      let b : ℕ → ℕ = (λ k. count i (reached_on n ws₂ rs k)) in
      omega (
        arith,
        count-append i (nodes_of n ws₄ H 0 r) (reached_nodes n H ws₄ rs),
        nodes_levels H 0 r i (λ k j p. S k j (omega (arith, count-append j (nodes_on n ws₂ (suc k) H 0 r) (reached_on n ws₂ rs (suc k))))),
        visits_levels rs i (λ k j p. S k j (omega (arith, count-append j (nodes_on n ws₂ (suc k) H 0 r) (reached_on n ws₂ rs (suc k))))),
        sum_cong (suc H) (λ k. count i (reached_on n ws₂ (r ∷ rs) k)) (λ k. a k + b k) (λ k q. count-append i (nodes_on n ws₂ k H 0 r) (reached_on n ws₂ rs k)),
        sum_add (suc H) a b,
      )

-- ---- the same nodes reached, and the same holders

δ₀_as : (a b : ℕ) → (0 < a → 0 < b) → (0 < b → 0 < a) → δ₀ a ≡ δ₀ b
δ₀_as a b f g = elim (ℕ_discrete a 0) [
  | yes z ↦ elim (ℕ_discrete b 0) [ yes q ↦ δ₀_zero a z ∙ sym (δ₀_zero b q) | no q ↦ absurd (omega (arith, g (omega arith))) ]
  | no z ↦ (let p : 0 < a = omega arith in δ₀_pos a p ∙ sym (δ₀_pos b (f p)))
]

-- where nodes above the leaves' level have the same links in both and leaves have none
module _ (n N : ℕ) (small : N ≤ none) (ws₂ ws₄ rs : List ℕ)
    (inner : (k j : ℕ) → 0 < count j (reached_on n ws₂ rs (suc k)) → SameLinks n ws₂ ws₄ j)
    (leaf : (j : ℕ) → 0 < count j (reached_on n ws₂ rs 0) → (Four.left ws₄ j ≡ none) × (Four.right ws₄ j ≡ none)) where
  pub on_visits : (k i : ℕ) → 0 < count i (reached_on n ws₂ rs k) → 0 < visits n (height n) ws₄ rs i
  on_visits k i p =
      omega (arith, visits_levels n ws₂ ws₄ rs i inner, sum_ge (suc (height n)) k (λ k. count i (reached_on n ws₂ rs k)) (omega (arith, on_low n ws₂ k i rs p)))

  pub visits_on : (i : ℕ) → 0 < visits n (height n) ws₄ rs i → (k : ℕ) × (0 < count i (reached_on n ws₂ rs k))
  visits_on i p = (let w = sum_pos (suc (height n)) (λ k. count i (reached_on n ws₂ rs k)) (omega (arith, visits_levels n ws₂ ws₄ rs i inner)) in (w.0, w.2))

  pub levels_visits : (i : ℕ) → 0 < levels_of n ws₂ rs i → 0 < visits n (height n) ws₄ rs i
  levels_visits i p = (let w = levels_on n ws₂ rs i p in on_visits w.0 i w.1)

  pub visits-levels_of : (i : ℕ) → 0 < visits n (height n) ws₄ rs i → 0 < levels_of n ws₂ rs i
  visits-levels_of i p = (let w = visits_on i p in on_levels n ws₂ rs i w.0 w.1)

  pub levels_δ₀ : (i : ℕ) → δ₀ (levels_of n ws₂ rs i) ≡ δ₀ (visits n (height n) ws₄ rs i)
  levels_δ₀ i = δ₀_as (levels_of n ws₂ rs i) (visits n (height n) ws₄ rs i) (levels_visits i) (visits-levels_of i)

  link-same : (i j : ℕ) → i < N → cond (is_inner n ws₂ rs j) (δ i (left ws₂ j) + δ i (right ws₂ j)) 0 ≡ reached_link n (height n) ws₄ rs i j
  unfolding reached_link
  link-same i j b = elim (decided (is_inner n ws₂ rs j)) [
    | inl e ↦ (
        let w = inner_is n ws₂ rs j e in
        let s = inner w.0 j w.2 in
        rw e (ap₂ (λ p q. δ i p + δ i q) s.0 s.1 ∙ sym (when_pos (visits n (height n) ws₄ rs j) _ (on_visits (suc w.0) j w.2))))
    | inr e ↦ rw e (elim (ℕ_discrete (visits n (height n) ws₄ rs j) 0) [
      | yes z ↦ sym (when_zero (visits n (height n) ws₄ rs j) _ z)
      | no z ↦ (
          let s = leaf j (lowest e (visits_on j (omega arith))) in
          sym (when_pos (visits n (height n) ws₄ rs j) _ (omega arith) ∙ ap₂ (λ p q. δ i p + δ i q) s.0 s.1 ∙ omega (arith, δ_other i none (omega arith))))
    ])
  ]
    where
      -- reached, and on no level above the leaves'
      lowest : is_inner n ws₂ rs j ≡ false → (k : ℕ) × (0 < count j (reached_on n ws₂ rs k)) → 0 < count j (reached_on n ws₂ rs 0)
      lowest e (k, p) = at k p
        where
          at : (k : ℕ) → 0 < count j (reached_on n ws₂ rs k) → 0 < count j (reached_on n ws₂ rs 0)
          at zero p = p
          at (suc k) p = absurd (true≢false (sym (is_inner_lem n ws₂ rs j k p) ∙ e))

  pub holders-same : (i : ℕ) → i < N → holders n N ws₂ rs i ≡ count i rs + sum N (reached_link n (height n) ws₄ rs i)
  holders-same i b =
      ap (λ s. count i rs + s) (sum_cong N (λ j. cond (is_inner n ws₂ rs j) (δ i (left ws₂ j) + δ i (right ws₂ j)) 0) (reached_link n (height n) ws₄ rs i) (λ j c. link-same i j b))
