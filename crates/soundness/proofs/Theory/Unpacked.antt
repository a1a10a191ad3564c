-- R-8: the words of an unpacked pool; and where the four-word pool is live, it is what its two-word pool unpacks to.
use Rattle.std.specs.Prelude.{◌≡◌, true, false, List, [], ◌∷◌, ◌++◌, take}
use Rattle.std.proofs.Math.Path.{refl, ap}
use Rattle.std.proofs.Common.{sym, ◌∙◌, subst, inl, inr, get_or-take, ext_get_or, length-take-le}
use Prim.Native.Nat.{ℕ, zero, suc, ◌+◌, ◌-◌, ◌*◌, ◌/◌, ◌%◌, ◌≤◌, ◌<◌}
use native.Mathlib.Omega.{arith}
use Rattle.std.proofs.Math.Decide.{ℕ_discrete}
use Rattle.std.proofs.Math.ListN.{length, get_or, length-append, get_or-append}
use Rattle.std.proofs.Math.Seq.{get_or-append-add}
use Rattle.words.specs.Basics.{none, count}
use Rattle.words.specs.Tests.{decided}
use Rattle.sizes.specs.Sizes.{height, tree_nodes}
use Rattle.pool.specs.Pool as Four
use Rattle.pool.specs.Theory.Good.{good_start}
use Rattle.pool.specs.Theory.Invariant.{links-left, links_leaf, links_at}
use Rattle.pool.specs.Theory.Nodes.{NodeIs}
use Rattle.pool.specs.Theory.Operations.{Live}
use Rattle.packed.specs.Pool.{refcount, content, left, right, init_pool}
use Rattle.packed.proofs.Theory.Start.{start_unpacks}
use Rattle.packed.proofs.Theory.Unpacks.{Unpacks}
use Rattle.soundness.specs.PackedTrees.{is_inner, is_on, reached_on}
use Rattle.soundness.specs.Unpacked.{four_of, unpacked_from, unpacked}
use Rattle.soundness.proofs.Theory.Levels.{is_on_lem, on_is, is_inner_lem, inner_is}
use Rattle.soundness.proofs.Theory.LiveLevels.{on_level, used_on}

-- ---- the words of a node

module _ (n : ℕ) (rs ws : List ℕ) where
  four_inner : (i : ℕ) → is_inner n ws rs i ≡ true → four_of n rs ws i ≡ refcount ws i ∷ left ws i ∷ right ws i ∷ 0 ∷ []
  four_inner i e = rw e

  four_leaf : (i : ℕ) → is_inner n ws rs i ≡ false → is_on n ws rs i 0 ≡ true → four_of n rs ws i ≡ refcount ws i ∷ none ∷ none ∷ content ws i ∷ []
  four_leaf i e f = rw (e, f)

  four_free : (i : ℕ) → is_inner n ws rs i ≡ false → is_on n ws rs i 0 ≡ false → four_of n rs ws i ≡ refcount ws i ∷ content ws i ∷ 0 ∷ 0 ∷ []
  four_free i e f = rw (e, f)

  length_four : (i : ℕ) → length (four_of n rs ws i) ≡ 4
  length_four i = elim (decided (is_inner n ws rs i)) [
    | inl e ↦ ap length (four_inner i e)
    | inr e ↦ elim (decided (is_on n ws rs i 0)) [ inl f ↦ ap length (four_leaf i e f) | inr f ↦ ap length (four_free i e f) ]
  ]

  length_from : (c i : ℕ) → length (unpacked_from n rs c ws i) ≡ 4 * c
  unfolding unpacked_from
  length_from zero i = refl
  length_from (suc c) i = omega (arith, length-append (four_of n rs ws i) (unpacked_from n rs c ws (suc i)), length_four i, length_from c (suc i))

  word_from : (c i j k : ℕ) → j < c → k < 4 → get_or (unpacked_from n rs c ws i) (4 * j + k) 0 ≡ get_or (four_of n rs ws (i + j)) k 0
  unfolding unpacked_from
  word_from zero i j k b h = absurd (omega arith)
  word_from (suc c) i j k b h = elim (ℕ_discrete j 0) [
    | yes e ↦ (
        let p : 4 * j + k ≡ k = omega arith in
        let q : i ≡ i + j = omega arith in
        ap (λ u. get_or (four_of n rs ws i ++ unpacked_from n rs c ws (suc i)) u 0) p ∙ get_or-append (four_of n rs ws i) (unpacked_from n rs c ws (suc i)) 0 k (omega (arith, length_four i))
        ∙ ap (λ q. get_or (four_of n rs ws q) k 0) q)
    | no e ↦ (
        let m = j - 1 in
        let p : 4 * j + k ≡ length (four_of n rs ws i) + (4 * m + k) = omega (arith, length_four i) in
        let q : suc i + m ≡ i + j = omega arith in
        ap (λ u. get_or (four_of n rs ws i ++ unpacked_from n rs c ws (suc i)) u 0) p ∙ get_or-append-add (four_of n rs ws i) (unpacked_from n rs c ws (suc i)) (4 * m + k) 0
        ∙ word_from c (suc i) m k (omega arith) h ∙ ap (λ q. get_or (four_of n rs ws q) k 0) q)
  ]

  module _ (N : ℕ) where
    pub length-unpacked : length (unpacked n rs N ws) ≡ 4 * N
    unfolding unpacked
    length-unpacked = length_from N 0

    word_of : (j k : ℕ) → j < N → k < 4 → get_or (unpacked n rs N ws) (4 * j + k) 0 ≡ get_or (four_of n rs ws j) k 0
    unfolding unpacked
    word_of j k b h = (let q : 0 + j ≡ j = omega arith in word_from N 0 j k b h ∙ ap (λ q. get_or (four_of n rs ws q) k 0) q)

    -- the node whose words are c, l, r, v
    node_of : (j c l r v : ℕ) → j < N → four_of n rs ws j ≡ c ∷ l ∷ r ∷ v ∷ [] → NodeIs (unpacked n rs N ws) j c l r v
    unfolding Four.refcount Four.left Four.right Four.value
    node_of j c l r v b e =
        let z : 4 * j ≡ 4 * j + 0 = omega arith in
        record {
          refcount_is = ap (λ u. get_or (unpacked n rs N ws) u 0) z ∙ word_of j 0 b (omega arith) ∙ ap (λ xs. get_or xs 0 0) e;
          left_is = word_of j 1 b (omega arith) ∙ ap (λ xs. get_or xs 1 0) e;
          right_is = word_of j 2 b (omega arith) ∙ ap (λ xs. get_or xs 2 0) e;
          value_is = word_of j 3 b (omega arith) ∙ ap (λ xs. get_or xs 3 0) e;
        }

    pub unpacked-inner : (j : ℕ) → j < N → is_inner n ws rs j ≡ true → NodeIs (unpacked n rs N ws) j (refcount ws j) (left ws j) (right ws j) 0
    unpacked-inner j b e = node_of j (refcount ws j) (left ws j) (right ws j) 0 b (four_inner j e)

    pub unpacked_leaf : (j : ℕ) → j < N → is_inner n ws rs j ≡ false → is_on n ws rs j 0 ≡ true → NodeIs (unpacked n rs N ws) j (refcount ws j) none none (content ws j)
    unpacked_leaf j b e f = node_of j (refcount ws j) none none (content ws j) b (four_leaf j e f)

    pub unpacked_free : (j : ℕ) → j < N → is_inner n ws rs j ≡ false → is_on n ws rs j 0 ≡ false → NodeIs (unpacked n rs N ws) j (refcount ws j) (content ws j) 0 0
    unpacked_free j b e f = node_of j (refcount ws j) (content ws j) 0 0 b (four_free j e f)

    pub unpacked-refcount : (j : ℕ) → j < N → Four.refcount (unpacked n rs N ws) j ≡ refcount ws j
    unpacked-refcount j b = elim (decided (is_inner n ws rs j)) [
      | inl e ↦ (unpacked-inner j b e).refcount_is
      | inr e ↦ elim (decided (is_on n ws rs j 0)) [ inl f ↦ (unpacked_leaf j b e f).refcount_is | inr f ↦ (unpacked_free j b e f).refcount_is ]
    ]

-- ---- two lists with the same nodes

node_as : {ws : List ℕ} {i c c' l l' r r' v v' : ℕ} → c ≡ c' → l ≡ l' → r ≡ r' → v ≡ v' → NodeIs ws i c l r v → NodeIs ws i c' l' r' v'
node_as p q s t K = record { refcount_is = K.refcount_is ∙ p; left_is = K.left_is ∙ q; right_is = K.right_is ∙ s; value_is = K.value_is ∙ t }

abbrev SameAt : List ℕ → List ℕ → ℕ → Type 0
SameAt ws ws' i = NodeIs ws i (Four.refcount ws' i) (Four.left ws' i) (Four.right ws' i) (Four.value ws' i)

same_word : (ws ws' : List ℕ) (j k : ℕ) → k < 4 → SameAt ws ws' j → get_or ws (4 * j + k) 0 ≡ get_or ws' (4 * j + k) 0
unfolding Four.refcount Four.left Four.right Four.value
same_word ws ws' j zero h K = (let z : 4 * j + 0 ≡ 4 * j = omega arith in ap (λ u. get_or ws u 0) z ∙ K.refcount_is ∙ ap (λ u. get_or ws' u 0) (sym z))
same_word ws ws' j (suc zero) h K = K.left_is
same_word ws ws' j (suc (suc zero)) h K = K.right_is
same_word ws ws' j (suc (suc (suc zero))) h K = K.value_is
same_word ws ws' j (suc (suc (suc (suc k)))) h K = absurd (omega arith)

same_nodes : (ws ws' : List ℕ) (N : ℕ) → length ws ≡ 4 * N → 4 * N ≤ length ws' → ((j : ℕ) → j < N → SameAt ws ws' j) → ws ≡ take (4 * N) ws'
same_nodes ws ws' N e room K =
    ext_get_or 0 ws (take (4 * N) ws') (e ∙ sym (length-take-le (4 * N) ws' room))
    (λ u b. subst (λ q. get_or ws q 0 ≡ get_or ws' q 0) (omega arith) (same_word ws ws' (u / 4) (u % 4) (omega arith) (K (u / 4) (omega arith))) ∙ sym (get_or-take (4 * N) ws' u 0 (omega arith)))

-- ---- beside a live pool

module _ (n N : ℕ) (some : 0 < n) (most : N ≤ 16384) {level size : ℕ → ℕ} {tail ws₂ ws₄ : List ℕ} {free : ℕ} {fs rs : List ℕ}
    (L : Live N (height n) n level size ws₄ free fs rs) (U : Unpacks N tail ws₂ ws₄) where
  -- reached on no level but its own
  off : (i k : ℕ) → (0 < Four.refcount ws₄ i → level i ≡ k → ⊥) → is_on n ws₂ rs i k ≡ false
  off i k o = elim (decided (is_on n ws₂ rs i k)) [ inl e ↦ (let w = on_level n N some most L U k i (on_is n ws₂ rs i k e) in absurd (o w.0 w.1)) | inr e ↦ e ]

  not_inner : (i : ℕ) → (0 < Four.refcount ws₄ i → 0 < level i → ⊥) → is_inner n ws₂ rs i ≡ false
  not_inner i o = elim (decided (is_inner n ws₂ rs i)) [
    | inl e ↦ (let w = inner_is n ws₂ rs i e in let v = on_level n N some most L U (suc w.0) i w.2 in absurd (o v.0 (omega (arith, v.1))))
    | inr e ↦ e
  ]

  used_inner : (i l : ℕ) → i < N → 0 < Four.refcount ws₄ i → level i ≡ suc l → SameAt (unpacked n rs N ws₂) ws₄ i
  used_inner i l b p e =
      let t = is_inner_lem n ws₂ rs i l (subst (λ k. 0 < count i (reached_on n ws₂ rs k)) e (used_on n N some most L U i b p)) in
      let s = U.inner i b p (omega (arith, (links-left N level size l (size i) (Four.left ws₄ i) (Four.right ws₄ i) (links_at L.inv i (suc l) b p e)).0)) in
      node_as (U.counts i b) s.0 s.1 (sym (L.inv.inner i b p (omega arith))) (unpacked-inner n rs ws₂ N i b t)

  used_leaf : (i : ℕ) → i < N → 0 < Four.refcount ws₄ i → level i ≡ 0 → SameAt (unpacked n rs N ws₂) ws₄ i
  used_leaf i b p e =
      let t = is_on_lem n ws₂ rs i 0 (subst (λ k. 0 < count i (reached_on n ws₂ rs k)) e (used_on n N some most L U i b p)) in
      let s = links_leaf N level size (size i) (Four.left ws₄ i) (Four.right ws₄ i) (links_at L.inv i 0 b p e) in
      node_as (U.counts i b) (sym s.0) (sym s.1) (U.leaf i b p s.0) (unpacked_leaf n rs ws₂ N i b (not_inner i (λ q h. omega arith)) t)

  unused : (i : ℕ) → i < N → Four.refcount ws₄ i ≡ 0 → SameAt (unpacked n rs N ws₂) ws₄ i
  unused i b z =
      let c = L.inv.cleared i b z in
      node_as (U.counts i b) (U.free i b z) (sym c.0) (sym c.1) (unpacked_free n rs ws₂ N i b (not_inner i (λ q h. omega arith)) (off i 0 (λ q h. omega arith)))

  pub unpacked-live : unpacked n rs N ws₂ ≡ take (4 * N) ws₄
  unpacked-live = same_nodes (unpacked n rs N ws₂) ws₄ N (length-unpacked n rs ws₂ N) U.room (λ i b. elim (ℕ_discrete (Four.refcount ws₄ i) 0) [
    | yes z ↦ unused i b z
    | no z ↦ at i b (omega arith) (level i) refl
  ])
    where
      at : (i : ℕ) → i < N → 0 < Four.refcount ws₄ i → (l : ℕ) → level i ≡ l → SameAt (unpacked n rs N ws₂) ws₄ i
      at i b p zero e = used_leaf i b p e
      at i b p (suc l) e = used_inner i l b p e

-- R-8: "After starts with as many nodes, unpacking the new pool gives the old one node for node."; and the first free nodes are the same
pub start-unpacked : (ws₂ ws₄ : List ℕ) (n N : ℕ) (vs : List ℕ) → 0 < n → tree_nodes n ≤ N → N ≤ 16384 → 2 * N ≤ length ws₂ → 4 * N ≤ length ws₄
    → (unpacked n (0 ∷ []) N (init_pool ws₂ n N vs).0 ≡ take (4 * N) (Four.init_pool ws₄ n N vs).0) × ((init_pool ws₂ n N vs).1 ≡ (Four.init_pool ws₄ n N vs).1)
start-unpacked ws₂ ws₄ n N vs some fits most room₂ room₄ =
    let S = start_unpacks ws₂ ws₄ n N vs fits most room₂ room₄ in
    (unpacked-live n N some most (good_start N n most some ws₄ vs fits room₄).0.good.live S.0, S.1)
