-- R-8: soundness in one layout is soundness in the other: a two-word pool that unpacks to a sound four-word pool is sound, and a sound two-word pool
-- unpacks to a sound four-word pool; with the same free chain.
use Rattle.std.specs.Prelude.{◌≡◌, refl, ◌≢◌, true, List, length, drop}
use Rattle.std.proofs.Math.Path.{sym, subst}
use Rattle.std.proofs.Common.{◌∙◌, arith}
use Rattle.std.proofs.Math.Logic.{inl, inr}
use Rattle.std.proofs.Math.Bool.{false}
use Prim.Native.Nat.{ℕ, zero, suc, ◌+◌, ◌*◌, ◌≤◌, ◌<◌}
use Rattle.std.proofs.Math.Decide.{ℕ_discrete}
use Rattle.std.proofs.Math.ListN.{length-drop}
use Rattle.words.specs.Basics.{none, count}
use Rattle.words.specs.Chains.{chain_cong}
use Rattle.words.specs.Tests.{decided}
use Rattle.words.specs.Counting.{δ_same, δ₀_zero, δ₀_inv}
use Rattle.words.specs.Tallies.{how_many_unique}
use Rattle.sizes.specs.Heights.{height_covers}
use Rattle.sizes.specs.Sizes.{height}
use Rattle.pool.specs.Pool as Four
use Rattle.pool.specs.Theory.Nodes.{NodeIs}
use Rattle.pool.specs.Theory.Operations.{Live}
use Rattle.pool.specs.Theory.Soundness.{link_level, link_size, sound-live}
use Rattle.pool.specs.Theory.Trees.{TreeAt, PoolSound, visits}
use Rattle.packed.specs.Pool.{refcount, content, left, right}
use Rattle.packed.proofs.Theory.Unpacks.{Unpacks}
use Rattle.soundness.specs.PackedTrees.{nodes_on, reached_on, is_on, is_inner, levels_of}
use Rattle.soundness.specs.PackedTrees as TwoTrees
use Rattle.soundness.specs.Trees as FourTrees
use Rattle.soundness.specs.Layout.{four_words, two_words, pool_sound}
use Rattle.soundness.specs.Unpacked.{unpacked}
use Rattle.soundness.proofs.Theory.PoolSentences.{pool_fact, fact_pool}
use Rattle.soundness.proofs.Theory.PackedSentences.{PackedTree, PackedSound, packed_fact, fact_packed}
use Rattle.soundness.proofs.Theory.Levels.{SameLinks, on_here, on_left_lem, on_right, on_cases, on_root, root_on, on_low, is_on_lem, on_is, is_inner_lem, inner_is, on_levels, levels_on, levels_visits, visits-levels_of, levels_δ₀, holders-same}
use Rattle.soundness.proofs.Theory.LiveLevels.{packed_sound}
use Rattle.soundness.proofs.Theory.Unpacked.{length-unpacked, unpacked-inner, unpacked_leaf, unpacked_free, unpacked-refcount}

-- ---- from four words to two

pub live_packed : (n N : ℕ) → 0 < n → N ≤ 16384 → {level size : ℕ → ℕ} {tail ws₂ ws₄ : List ℕ} {first : ℕ} {fs rs : List ℕ}
    → Live N (height n) n level size ws₄ first fs rs → Unpacks N tail ws₂ ws₄ → (pool_sound two_words n N ws₂ first rs ≡ true) × (TwoTrees.free_nodes N ws₂ first ≡ fs)
live_packed n N some most {ws₂ = ws₂} {ws₄} {first} {fs} {rs} L U = fact_packed n N ws₂ first rs (omega arith) fs (packed_sound n N some most L U)

pub four_packed : (n N : ℕ) → 0 < n → N ≤ 16384 → {tail ws₂ ws₄ : List ℕ} (first : ℕ) (rs : List ℕ) → Unpacks N tail ws₂ ws₄ → pool_sound four_words n N ws₄ first rs ≡ true
    → (pool_sound two_words n N ws₂ first rs ≡ true) × (TwoTrees.free_nodes N ws₂ first ≡ FourTrees.free_nodes N ws₄ first)
four_packed n N some most {ws₂ = ws₂} {ws₄} first rs U e =
    live_packed n N some most (sound-live N (height n) n (omega arith) some (height_covers n) (pool_fact n N ws₄ first rs U.room e)) U

-- ---- from two words to four

module _ (n N : ℕ) (some : 0 < n) (most : N ≤ 16384) (ws₂ : List ℕ) (first : ℕ) (fs rs : List ℕ) (P : PackedSound N n ws₂ first fs rs) where
  small : N ≤ none
  small = omega arith

  ws₄ : List ℕ
  ws₄ = unpacked n rs N ws₂

  on_tree : (k i : ℕ) → 0 < count i (reached_on n ws₂ rs k) → (d : ℕ) × PackedTree n N ws₂ k d i
  unfolding PackedTree
  on_tree k i p =
      let w = on_root n ws₂ k i rs p in
      on_cases n ws₂ (λ l g c. PackedTree n N ws₂ l g c → (d : ℕ) × PackedTree n N ws₂ k d i) k i (λ g t. (g, t)) (λ l g c r t. r t.1) (λ l g c h r t. r (t.2 h))
      (height n) 0 w.0 w.2 (P.trees w.0 w.1)

  tree_in : (l g i : ℕ) → PackedTree n N ws₂ l g i → i < N
  unfolding PackedTree
  tree_in zero g i t = t
  tree_in (suc l) g i t = t.0

  left_in : (l g i : ℕ) → PackedTree n N ws₂ (suc l) g i → left ws₂ i < N
  unfolding PackedTree
  left_in l g i t = tree_in l (2 * g) (left ws₂ i) t.1

  on_in : (k i : ℕ) → 0 < count i (reached_on n ws₂ rs k) → i < N
  on_in k i p = (let w = on_tree k i p in tree_in k w.0 i w.1)

  -- "no node is reached on two levels"
  one_level_lem : (i k m : ℕ) → 0 < count i (reached_on n ws₂ rs k) → 0 < count i (reached_on n ws₂ rs m) → k ≡ m
  one_level_lem i k m p q =
      how_many_unique (suc (height n)) k m (is_on n ws₂ rs i) (P.levels i (on_in k i p)) (omega (arith, on_low n ws₂ k i rs p)) (omega (arith, on_low n ws₂ m i rs q)) (is_on_lem n ws₂ rs i k p) (is_on_lem n ws₂ rs i m q)

  -- ---- the words of a node, by its level

  abbrev Inner : ℕ → Type 0
  Inner j = NodeIs ws₄ j (refcount ws₂ j) (left ws₂ j) (right ws₂ j) 0

  abbrev Leaf : ℕ → Type 0
  Leaf j = NodeIs ws₄ j (refcount ws₂ j) none none (content ws₂ j)

  inner_at : (k j : ℕ) → 0 < count j (reached_on n ws₂ rs (suc k)) → Inner j
  unfolding ws₄
  inner_at k j p = unpacked-inner n rs ws₂ N j (on_in (suc k) j p) (is_inner_lem n ws₂ rs j k p)

  leaf_at : (j : ℕ) → 0 < count j (reached_on n ws₂ rs 0) → Leaf j
  unfolding ws₄
  leaf_at j p = unpacked_leaf n rs ws₂ N j (on_in 0 j p) low (is_on_lem n ws₂ rs j 0 p)
    where
      low : is_inner n ws₂ rs j ≡ false
      low = elim (decided (is_inner n ws₂ rs j)) [ inl e ↦ (let w = inner_is n ws₂ rs j e in absurd (omega (arith, one_level_lem j 0 (suc w.0) p w.2))) | inr e ↦ e ]

  free_at : (j : ℕ) → j < N → levels_of n ws₂ rs j ≡ 0 → NodeIs ws₄ j (refcount ws₂ j) (content ws₂ j) 0 0
  unfolding ws₄
  free_at j b z = unpacked_free n rs ws₂ N j b low off
    where
      low : is_inner n ws₂ rs j ≡ false
      low = elim (decided (is_inner n ws₂ rs j)) [ inl e ↦ (let w = inner_is n ws₂ rs j e in absurd (omega (arith, on_levels n ws₂ rs j (suc w.0) w.2))) | inr e ↦ e ]

      off : is_on n ws₂ rs j 0 ≡ false
      off = elim (decided (is_on n ws₂ rs j 0)) [ inl e ↦ absurd (omega (arith, on_levels n ws₂ rs j 0 (on_is n ws₂ rs j 0 e))) | inr e ↦ e ]

  inner-links : (k j : ℕ) → 0 < count j (reached_on n ws₂ rs (suc k)) → SameLinks n ws₂ ws₄ j
  inner-links k j p = (let K = inner_at k j p in (sym K.left_is, sym K.right_is))

  leaf_bare : (j : ℕ) → 0 < count j (reached_on n ws₂ rs 0) → (Four.left ws₄ j ≡ none) × (Four.right ws₄ j ≡ none)
  leaf_bare j p = (let K = leaf_at j p in (K.left_is, K.right_is))

  four_tree : (l g c : ℕ) → ((k j : ℕ) → 0 < count j (nodes_on n ws₂ (suc k) l g c) → Inner j) → ((j : ℕ) → 0 < count j (nodes_on n ws₂ 0 l g c) → Leaf j)
      → PackedTree n N ws₂ l g c → TreeAt n N ws₄ l g c
  unfolding TreeAt PackedTree
  four_tree zero g c I F t = (let K = F c (omega (arith, on_here n ws₂ 0 g c c, δ_same c)) in (t, K.left_is, K.right_is))
  four_tree (suc l) g c I F t =
      let K = I l c (omega (arith, on_here n ws₂ (suc l) g c c, δ_same c)) in (
        t.0,
        K.value_is,
        subst (TreeAt n N ws₄ l (2 * g)) (sym K.left_is)
            (four_tree l (2 * g) (left ws₂ c) (λ k j p. I k j (on_left_lem n ws₂ (suc k) l g c j p)) (λ j p. F j (on_left_lem n ws₂ 0 l g c j p)) t.1),
        (λ h. subst (TreeAt n N ws₄ l (2 * g + 1)) (sym K.right_is)
            (four_tree l (2 * g + 1) (right ws₂ c) (λ k j p. I k j (on_right n ws₂ (suc k) l g c j h p)) (λ j p. F j (on_right n ws₂ 0 l g c j h p)) (t.2 h))),
        (λ h. K.right_is ∙ t.3 h),
      )

  -- ---- the whole

  unreached : (i : ℕ) → visits n (height n) ws₄ rs i ≡ 0 → levels_of n ws₂ rs i ≡ 0
  unreached i z = elim (ℕ_discrete (levels_of n ws₂ rs i) 0) [ yes e ↦ e | no e ↦ absurd (omega (arith, levels_visits n N small ws₂ ws₄ rs inner-links leaf_bare i (omega arith))) ]

  same_count : (i : ℕ) → i < N → Four.refcount ws₄ i ≡ refcount ws₂ i
  unfolding ws₄
  same_count i b = unpacked-refcount n rs ws₂ N i b

  room : 4 * N ≤ length ws₄
  unfolding ws₄
  room = omega (arith, length-unpacked n rs ws₂ N)

  free_next_lem : (x : ℕ) → x < N → 0 < count x fs → Four.left ws₄ x ≡ content ws₂ x
  free_next_lem x b o = (free_at x b (δ₀_inv (levels_of n ws₂ rs x) (omega (arith, P.once x b)))).left_is

  pub four_sound : PoolSound N (height n) n (unpacked n rs N ws₂) first fs rs
  unfolding ws₄
  four_sound = record {
    room = room;
    trees = λ e p. four_tree (height n) 0 e (λ k j q. inner_at k j (root_on n ws₂ (suc k) j e rs p q)) (λ j q. leaf_at j (root_on n ws₂ 0 j e rs p q)) (P.trees e p);
    refcounts = λ i b p.
        same_count i b ∙ P.refcounts i b (visits-levels_of n N small ws₂ ws₄ rs inner-links leaf_bare i p) ∙ holders-same n N small ws₂ ws₄ rs inner-links leaf_bare i b;
    unreached = λ i b z. (let q = unreached i z in let K = free_at i b q in (same_count i b ∙ P.unreached i b q, K.right_is, K.value_is));
    chain = chain_cong N (content ws₂) (Four.left ws₄) fs first free_next_lem P.chain;
    once = λ i b. P.once i b ∙ levels_δ₀ n N small ws₂ ws₄ rs inner-links leaf_bare i;
  }

  live : Live N (height n) n (link_level (height n) (unpacked n rs N ws₂)) (link_size (height n) (unpacked n rs N ws₂)) (unpacked n rs N ws₂) first fs rs
  live = sound-live N (height n) n small some (height_covers n) four_sound

  -- a node in use is reached
  used_on : (i : ℕ) → i < N → 0 < Four.refcount ws₄ i → (k : ℕ) × (0 < count i (reached_on n ws₂ rs k))
  used_on i b p = elim (ℕ_discrete (levels_of n ws₂ rs i) 0) [ yes e ↦ absurd (omega (arith, same_count i b, P.unreached i b e)) | no e ↦ levels_on n ws₂ rs i (omega arith) ]

  free_level : (i : ℕ) → i < N → Four.refcount ws₄ i ≡ 0 → levels_of n ws₂ rs i ≡ 0
  unfolding ws₄
  free_level i b z = δ₀_inv (levels_of n ws₂ rs i) (omega (arith, P.once i b, live.inv.listed i b, δ₀_zero (Four.refcount (unpacked n rs N ws₂) i) z))

  pub sound_unpacks : 2 * N ≤ length ws₂ → Unpacks N (drop (2 * N) ws₂) ws₂ (unpacked n rs N ws₂)
  unfolding ws₄
  sound_unpacks long = record {
    room = room;
    long = omega (arith, length-drop (2 * N) ws₂);
    past = refl;
    counts = λ i b. sym (same_count i b);
    inner = λ i b p o. (let w = used_on i b p in inner i w.0 w.1 o);
    leaf = λ i b p e. (let w = used_on i b p in leaf i w.0 w.1 e);
    free = λ i b z. sym (free_at i b (free_level i b z)).left_is;
  }
    where
      inner : (i k : ℕ) → 0 < count i (reached_on n ws₂ rs k) → Four.left ws₄ i ≢ none → SameLinks n ws₂ ws₄ i
      inner i zero p o = absurd (o (leaf_bare i p).0)
      inner i (suc k) p o = inner-links k i p

      leaf : (i k : ℕ) → 0 < count i (reached_on n ws₂ rs k) → Four.left ws₄ i ≡ none → content ws₂ i ≡ Four.value ws₄ i
      leaf i zero p e = sym (leaf_at i p).value_is
      leaf i (suc k) p e = (let w = on_tree (suc k) i p in absurd (omega (arith, left_in k w.0 i w.1, (inner_at k i p).left_is)))

pub packed_four : (n N : ℕ) → 0 < n → N ≤ 16384 → (ws₂ : List ℕ) (first : ℕ) (rs : List ℕ) → 2 * N ≤ length ws₂ → pool_sound two_words n N ws₂ first rs ≡ true
    → let ws₄ : List ℕ = unpacked n rs N ws₂ in
    Unpacks N (drop (2 * N) ws₂) ws₂ ws₄ × (pool_sound four_words n N ws₄ first rs ≡ true) × (TwoTrees.free_nodes N ws₂ first ≡ FourTrees.free_nodes N ws₄ first)
packed_four n N some most ws₂ first rs long e =
    let fs : List ℕ = TwoTrees.free_nodes N ws₂ first in
    let P = packed_fact n N ws₂ first rs e in
    let S = fact_pool n N (unpacked n rs N ws₂) first rs (omega arith) fs (four_sound n N some most ws₂ first fs rs P) in
    (sound_unpacks n N some most ws₂ first fs rs P long, S.0, sym S.1)
