-- Document 01's "Soundness", the sentences on trees: the test of Soundness holds if and only if the pool is sound by the pool's own
-- theory.
use Rattle.std.specs.Prelude.{◌≡◌, ◌⊎◌, Bool, true, false, ◌||◌, ◌&&◌, length, eqb, ltb}
use Rattle.std.proofs.Math.Path.{refl, ap, ap₂}
use Rattle.std.proofs.Common.{sym, ◌∙◌, subst}
use Rattle.std.proofs.Math.Logic.{inl, inr}
use Rattle.std.proofs.Math.Bool.{cond}
use mathlib.Core.List.{List, [], ◌∷◌, ◌++◌}
use Prim.Native.Nat.{ℕ, zero, suc, ◌+◌, ◌*◌, ◌≤◌, ◌<◌, ◌^◌}
use native.Mathlib.Omega.{arith}
use Rattle.std.proofs.Math.Decide.{ℕ_discrete, dec_lt}
use Rattle.words.specs.Basics.{none, sum, all, below, δ, count}
use Rattle.words.specs.Tests.{decided, ltb_of, nltb_of}
use Rattle.words.specs.Counting.{δ_same, δ_other, δ₀, δ₀_zero, δ₀_pos, when, when_zero, when_pos, count_nil, count_cons, sum_cong}
use Rattle.sizes.specs.Sizes.{height}
use Rattle.pool.specs.Pool.{refcount, left, right, value}
use Rattle.pool.specs.Theory.Trees.{TreeAt, nodes_of, reached_nodes, reached_link, visits, PoolSound}
use Rattle.soundness.specs.Trees.{tree_at, nodes_at, trees_at, reached, is_reached, holders, is_free, free_nodes, pool_sentences}
use Rattle.soundness.specs.Sentence.{Sentence}
use Rattle.soundness.specs.Layout.{four_words, pool_sound}
use Rattle.soundness.proofs.Theory.Is.{Is, is_as, eq_is, lt_is, and_is, and3_is, or_is, all_is}
use Rattle.soundness.proofs.Theory.Each.{row_of, of_each}
use Rattle.soundness.proofs.Theory.FreeLists.{chain_below, follow-sound, sound-follow}

-- ---- a tree and its nodes

-- one of two tests, by whether x is below n
pub by_is : (x n : ℕ) {a b : Bool} {P Q : Type 0} → Is a P → Is b Q → Is (elim (ltb x n) [ true ↦ a | false ↦ b ]) ((x < n → P) × (n ≤ x → Q))
by_is x n i j = elim (dec_lt x n) [
  | yes h ↦ rw (ltb_of h) (is_as (λ p. ((λ l. p), λ l. absurd (omega arith))) (λ r. r.0 h) i)
  | no h ↦ (let l : n ≤ x = omega arith in rw (nltb_of l) (is_as (λ q. ((λ b. absurd (omega arith)), λ b. q)) (λ r. r.1 l) j))
]

module _ (n N : ℕ) (ws : List ℕ) where
  tree_is : (l g i : ℕ) → Is (tree_at n N ws l g i) (TreeAt n N ws l g i)
  unfolding tree_at TreeAt
  tree_is zero g i = and3_is (lt_is i N) (eq_is (left ws i) none) (eq_is (right ws i) none)
  tree_is (suc l) g i =
      is_as (λ h. (h.0, h.1, h.2.0, h.2.1.0, h.2.1.1)) (λ h. (h.0, h.1, (h.2, (h.3, h.4))))
      (and3_is (lt_is i N) (eq_is (value ws i) 0)
      (and_is (tree_is l (2 * g) (left ws i)) (by_is ((2 * g + 1) * 2 ^ l) n (tree_is l (2 * g + 1) (right ws i)) (eq_is (right ws i) none))))

  nodes_is : (l g i : ℕ) → nodes_at n ws l g i ≡ nodes_of n ws l g i
  unfolding nodes_at nodes_of
  nodes_is zero g i = refl
  nodes_is (suc l) g i =
      ap₂ (λ (a b : List ℕ). i ∷ (a ++ b)) (nodes_is l (2 * g) (left ws i))
      (elim (decided (ltb ((2 * g + 1) * 2 ^ l) n)) [ inl e ↦ rw e (nodes_is l (2 * g + 1) (right ws i)) | inr e ↦ rw e ])

  reached_is : (rs : List ℕ) → reached n ws rs ≡ reached_nodes n (height n) ws rs
  unfolding reached_nodes
  reached_is [] = refl
  reached_is (r ∷ rs) = ap₂ ◌++◌ (nodes_is (height n) 0 r) (reached_is rs)

  -- every root
  abbrev Rooted : List ℕ → Type 0
  Rooted rs = (e : ℕ) → 0 < count e rs → TreeAt n N ws (height n) 0 e

  rooted_cons : (r : ℕ) (rs : List ℕ) → TreeAt n N ws (height n) 0 r × Rooted rs → Rooted (r ∷ rs)
  rooted_cons r rs h e c = elim (ℕ_discrete e r) [
    | yes q ↦ subst (TreeAt n N ws (height n) 0) (sym q) h.0
    | no q ↦ h.1 e (omega (arith, count_cons e r rs, δ_other e r q))
  ]

  trees_is : (rs : List ℕ) → Is (trees_at n N ws rs) (Rooted rs)
  trees_is [] = record { fact = λ t e c. absurd (omega (arith, count_nil e)); test = λ h. refl }
  trees_is (r ∷ rs) =
      is_as (rooted_cons r rs) (λ h. (h r (omega (arith, count_cons r r rs, δ_same r)), λ e c. h e (omega (arith, count_cons e r rs))))
      (and_is (tree_is (height n) 0 r) (trees_is rs))

-- ---- the whole

cond_when : (v x : ℕ) → cond (ltb 0 v) x 0 ≡ when v x
cond_when v x = elim (ℕ_discrete v 0) [
  | yes e ↦ (let b : v ≤ 0 = omega arith in rw (nltb_of b) (sym (when_zero v x e)))
  | no e ↦ (let b : 0 < v = omega arith in rw (ltb_of b) (sym (when_pos v x b)))
]

module _ (n N : ℕ) (ws : List ℕ) (first : ℕ) (rs : List ℕ) where
  visits_is : (i : ℕ) → count i (reached n ws rs) ≡ visits n (height n) ws rs i
  visits_is i = ap (count i) (reached_is n N ws rs)

  holders_is : (i : ℕ) → holders n N ws rs i ≡ count i rs + sum N (reached_link n (height n) ws rs i)
  unfolding reached_link
  holders_is i =
      ap (λ s. count i rs + s) (sum_cong N (λ j. cond (is_reached n ws rs j) (δ i (left ws j) + δ i (right ws j)) 0) (reached_link n (height n) ws rs i)
      (λ j b. cond_when (count j (reached n ws rs)) (δ i (left ws j) + δ i (right ws j)) ∙ ap (λ v. when v (δ i (left ws j) + δ i (right ws j))) (visits_is j)))

  -- node i is reached and not on the chain fs, or it is free and there once
  abbrev node_test : List ℕ → ℕ → Bool
  node_test fs i =
      (is_reached n ws rs i && (eqb (refcount ws i) (holders n N ws rs i) && eqb (count i fs) 0)) || (eqb (count i (reached n ws rs)) 0 && (is_free ws i && eqb (count i fs) 1))

  abbrev Used : List ℕ → ℕ → Type 0
  Used fs i = (0 < visits n (height n) ws rs i) × (refcount ws i ≡ count i rs + sum N (reached_link n (height n) ws rs i)) × (count i fs ≡ 0)

  abbrev Free : List ℕ → ℕ → Type 0
  Free fs i = (visits n (height n) ws rs i ≡ 0) × ((refcount ws i ≡ 0) × (right ws i ≡ 0) × (value ws i ≡ 0)) × (count i fs ≡ 1)

  node_is : (fs : List ℕ) (i : ℕ) → Is (node_test fs i) (Used fs i ⊎ Free fs i)
  node_is fs i =
      let v = count i (reached n ws rs) in
      let h = holders n N ws rs i in
      or_is
      (and3_is (is_as (subst (λ v. 0 < v) (visits_is i)) (subst (λ v. 0 < v) (sym (visits_is i))) (lt_is 0 v))
      (is_as (λ e. e ∙ holders_is i) (λ e. e ∙ sym (holders_is i)) (eq_is (refcount ws i) h)) (eq_is (count i fs) 0))
      (and3_is (is_as (λ e. sym (visits_is i) ∙ e) (λ e. visits_is i ∙ e) (eq_is v 0))
      (and3_is (eq_is (refcount ws i) 0) (eq_is (right ws i) 0) (eq_is (value ws i) 0)) (eq_is (count i fs) 1))

  node_once : (fs : List ℕ) (i : ℕ) → Used fs i ⊎ Free fs i → count i fs ≡ δ₀ (visits n (height n) ws rs i)
  node_once fs i (inl h) = h.2 ∙ sym (δ₀_pos (visits n (height n) ws rs i) h.0)
  node_once fs i (inr h) = h.2 ∙ sym (δ₀_zero (visits n (height n) ws rs i) h.0)

  node_few : (fs : List ℕ) (i : ℕ) → Used fs i ⊎ Free fs i → count i fs ≤ 1
  node_few fs i (inl h) = omega (arith, h.2)
  node_few fs i (inr h) = omega (arith, h.2)

  -- the chain that the check follows is the free list
  pub pool_fact : 4 * N ≤ length ws → pool_sound four_words n N ws first rs ≡ true → PoolSound N (height n) n ws first (free_nodes N ws first) rs
  unfolding pool_sound
  pool_fact room e = record {
    room = room;
    trees = (trees_is n N ws rs).fact (row_of ss e 0);
    refcounts = λ i b p. elim (at i b) [ inl u ↦ u.1 | inr f ↦ absurd (omega (arith, f.0)) ];
    unreached = λ i b p. elim (at i b) [ inl u ↦ absurd (omega (arith, u.0)) | inr f ↦ f.1 ];
    chain = follow-sound (left ws) N first (row_of ss e 1) (λ i b. node_few fs i (at i b));
    once = λ i b. node_once fs i (at i b);
  }
    where
      fs : List ℕ
      fs = free_nodes N ws first

      ss : List Sentence
      ss = pool_sentences n N ws first rs

      at : (i : ℕ) → i < N → Used fs i ⊎ Free fs i
      at = (all_is N (node_is fs)).fact (row_of ss e 2)

  pub fact_pool : N ≤ none → (fs : List ℕ) → PoolSound N (height n) n ws first fs rs → (pool_sound four_words n N ws first rs ≡ true) × (free_nodes N ws first ≡ fs)
  unfolding pool_sound
  fact_pool small fs S = (of_each (pool_sentences n N ws first rs) ((trees_is n N ws rs).test S.trees, (inside, (nodes, tt))), same)
    where
      at : (i : ℕ) → i < N → Used fs i ⊎ Free fs i
      at i b = elim (ℕ_discrete (visits n (height n) ws rs i) 0) [
        | yes e ↦ inr (e, S.unreached i b e, S.once i b ∙ δ₀_zero (visits n (height n) ws rs i) e)
        | no e ↦ (let p : 0 < visits n (height n) ws rs i = omega arith in inl (p, S.refcounts i b p, S.once i b ∙ δ₀_pos (visits n (height n) ws rs i) p))
      ]

      same : free_nodes N ws first ≡ fs
      same = sound-follow (left ws) N small first fs S.chain (λ i b. node_few fs i (at i b))

      inside : below N (free_nodes N ws first) ≡ true
      inside = subst (λ xs. below N xs ≡ true) (sym same) (chain_below (left ws) N first fs S.chain)

      nodes : all N (node_test (free_nodes N ws first)) ≡ true
      nodes = subst (λ xs. all N (node_test xs) ≡ true) (sym same) ((all_is N (node_is fs)).test at)
