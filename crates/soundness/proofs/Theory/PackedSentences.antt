-- R-8: soundness, the sentences on trees, for nodes of two words, as facts: the test of PackedTrees holds if and only if they do.
use Rattle.std.specs.Prelude.{◌≡◌, refl, ◌⊎◌, true}
use Rattle.std.proofs.Common.{sym, ◌∙◌, subst}
use Rattle.std.proofs.Math.Logic.{inl, inr}
use mathlib.Core.List.{List, [], ◌∷◌}
use Prim.Native.Nat.{ℕ, zero, suc, ◌+◌, ◌*◌, ◌≤◌, ◌<◌, ◌^◌}
use native.Mathlib.Omega.{arith}
use Rattle.std.proofs.Math.Decide.{ℕ_discrete}
use Rattle.words.specs.Basics.{none, all, Chain, below, count}
use Rattle.words.specs.Counting.{δ_same, δ_other, δ₀, δ₀_zero, δ₀_pos, count_nil, count_cons}
use Rattle.sizes.specs.Sizes.{height}
use Rattle.packed.specs.Pool.{refcount, content, left, right}
use Rattle.soundness.specs.PackedTrees.{tree_at, trees_at, levels_of, holders, free_nodes, node_sound, pool_sentences}
use Rattle.soundness.specs.Sentence.{Sentence}
use Rattle.soundness.specs.Layout.{two_words, pool_sound}
use Rattle.soundness.proofs.Theory.Is.{Is, is_as, eq_is, lt_is, le_is, and3_is, and_is, or_is, not_is, all_is}
use Rattle.soundness.proofs.Theory.Each.{row_of, of_each}
use Rattle.soundness.proofs.Theory.FreeLists.{chain_below, follow-sound, sound-follow}
use Rattle.soundness.proofs.Theory.PoolSentences.{by_is}

-- node i is the root of a tree of level l and group g, for n splitters
unfoldable pub PackedTree : ℕ → ℕ → List ℕ → ℕ → ℕ → ℕ → Type 0
PackedTree n N ws zero g i = i < N
PackedTree n N ws (suc l) g i =
    (i < N) × PackedTree n N ws l (2 * g) (left ws i)
    × ((2 * g + 1) * 2 ^ l < n → PackedTree n N ws l (2 * g + 1) (right ws i)) × (n ≤ (2 * g + 1) * 2 ^ l → right ws i ≡ none)

-- with the free chain fs and the roots rs of the live frames
pub record PackedSound (N n : ℕ) (ws : List ℕ) (free : ℕ) (fs rs : List ℕ) : Type 0 where
  pub trees : (e : ℕ) → 0 < count e rs → PackedTree n N ws (height n) 0 e
  pub levels : (i : ℕ) → i < N → levels_of n ws rs i ≤ 1
  pub refcounts : (i : ℕ) → i < N → 0 < levels_of n ws rs i → refcount ws i ≡ holders n N ws rs i
  pub unreached : (i : ℕ) → i < N → levels_of n ws rs i ≡ 0 → refcount ws i ≡ 0
  pub chain : Chain (content ws) N free fs
  pub once : (i : ℕ) → i < N → count i fs ≡ δ₀ (levels_of n ws rs i)

module _ (n N : ℕ) (ws : List ℕ) where
  tree_is : (l g i : ℕ) → Is (tree_at n N ws l g i) (PackedTree n N ws l g i)
  unfolding tree_at PackedTree
  tree_is zero g i = lt_is i N
  tree_is (suc l) g i =
      is_as (λ h. (h.0, h.1, h.2.0, h.2.1)) (λ h. (h.0, h.1, (h.2, h.3)))
      (and3_is (lt_is i N) (tree_is l (2 * g) (left ws i)) (by_is ((2 * g + 1) * 2 ^ l) n (tree_is l (2 * g + 1) (right ws i)) (eq_is (right ws i) none)))

  -- every root
  abbrev Rooted : List ℕ → Type 0
  Rooted rs = (e : ℕ) → 0 < count e rs → PackedTree n N ws (height n) 0 e

  rooted_cons : (r : ℕ) (rs : List ℕ) → PackedTree n N ws (height n) 0 r × Rooted rs → Rooted (r ∷ rs)
  rooted_cons r rs h e c = elim (ℕ_discrete e r) [
    | yes q ↦ subst (PackedTree n N ws (height n) 0) (sym q) h.0
    | no q ↦ h.1 e (omega (arith, count_cons e r rs, δ_other e r q))
  ]

  trees_is : (rs : List ℕ) → Is (trees_at n N ws rs) (Rooted rs)
  trees_is [] = record { fact = λ t e c. absurd (omega (arith, count_nil e)); test = λ h. refl }
  trees_is (r ∷ rs) =
      is_as (rooted_cons r rs) (λ h. (h r (omega (arith, count_cons r r rs, δ_same r)), λ e c. h e (omega (arith, count_cons e r rs))))
      (and_is (tree_is (height n) 0 r) (trees_is rs))

module _ (n N : ℕ) (ws : List ℕ) (first : ℕ) (rs : List ℕ) where
  -- node i is reached and not on the chain fs, or it is free and there once
  abbrev Used : List ℕ → ℕ → Type 0
  Used fs i = (0 < levels_of n ws rs i) × (refcount ws i ≡ holders n N ws rs i) × (count i fs ≡ 0)

  abbrev Free : List ℕ → ℕ → Type 0
  Free fs i = (levels_of n ws rs i ≡ 0) × (refcount ws i ≡ 0) × (count i fs ≡ 1)

  node_is : (i : ℕ) → Is (node_sound n N ws first rs i) (Used (free_nodes N ws first) i ⊎ Free (free_nodes N ws first) i)
  node_is i =
      let k = levels_of n ws rs i in
      let c = count i (free_nodes N ws first) in
      let h = holders n N ws rs i in
      or_is (and3_is (lt_is 0 k) (eq_is (refcount ws i) h) (eq_is c 0))
      (and3_is (is_as (λ o. zero_of k o) (λ e p. omega arith) (not_is (lt_is 0 k))) (eq_is (refcount ws i) 0) (eq_is c 1))
    where
      zero_of : (k : ℕ) → (0 < k → ⊥) → k ≡ 0
      zero_of k o = elim (ℕ_discrete k 0) [ yes e ↦ e | no e ↦ absurd (o (omega arith)) ]

  node_once : (fs : List ℕ) (i : ℕ) → Used fs i ⊎ Free fs i → count i fs ≡ δ₀ (levels_of n ws rs i)
  node_once fs i (inl h) = h.2 ∙ sym (δ₀_pos (levels_of n ws rs i) h.0)
  node_once fs i (inr h) = h.2 ∙ sym (δ₀_zero (levels_of n ws rs i) h.0)

  node_few : (fs : List ℕ) (i : ℕ) → Used fs i ⊎ Free fs i → count i fs ≤ 1
  node_few fs i (inl h) = omega (arith, h.2)
  node_few fs i (inr h) = omega (arith, h.2)

  -- the chain that the check follows is the free list
  pub packed_fact : pool_sound two_words n N ws first rs ≡ true → PackedSound N n ws first (free_nodes N ws first) rs
  unfolding pool_sound
  packed_fact e = record {
    trees = (trees_is n N ws rs).fact (row_of ss e 0);
    levels = (all_is N (λ i. le_is (levels_of n ws rs i) 1)).fact (row_of ss e 1);
    refcounts = λ i b p. elim (at i b) [ inl u ↦ u.1 | inr f ↦ absurd (omega (arith, f.0)) ];
    unreached = λ i b p. elim (at i b) [ inl u ↦ absurd (omega (arith, u.0)) | inr f ↦ f.1 ];
    chain = follow-sound (content ws) N first (row_of ss e 2) (λ i b. node_few fs i (at i b));
    once = λ i b. node_once fs i (at i b);
  }
    where
      fs : List ℕ
      fs = free_nodes N ws first

      ss : List Sentence
      ss = pool_sentences n N ws first rs

      at : (i : ℕ) → i < N → Used fs i ⊎ Free fs i
      at = (all_is N node_is).fact (row_of ss e 3)

  pub fact_packed : N ≤ none → (fs : List ℕ) → PackedSound N n ws first fs rs → (pool_sound two_words n N ws first rs ≡ true) × (free_nodes N ws first ≡ fs)
  unfolding pool_sound
  fact_packed small fs S = (
    of_each (pool_sentences n N ws first rs) ((trees_is n N ws rs).test S.trees, ((all_is N (λ i. le_is (levels_of n ws rs i) 1)).test S.levels, (inside, (nodes, tt)))),
    same,
  )
    where
      at : (i : ℕ) → i < N → Used fs i ⊎ Free fs i
      at i b = elim (ℕ_discrete (levels_of n ws rs i) 0) [
        | yes e ↦ inr (e, S.unreached i b e, S.once i b ∙ δ₀_zero (levels_of n ws rs i) e)
        | no e ↦ (let p : 0 < levels_of n ws rs i = omega arith in inl (p, S.refcounts i b p, S.once i b ∙ δ₀_pos (levels_of n ws rs i) p))
      ]

      same : free_nodes N ws first ≡ fs
      same = sound-follow (content ws) N small first fs S.chain (λ i b. node_few fs i (at i b))

      inside : below N (free_nodes N ws first) ≡ true
      inside = subst (λ xs. below N xs ≡ true) (sym same) (chain_below (content ws) N first fs S.chain)

      nodes : all N (node_sound n N ws first rs) ≡ true
      nodes = (all_is N node_is).test (λ i b. subst (λ xs. Used xs i ⊎ Free xs i) (sym same) (at i b))
