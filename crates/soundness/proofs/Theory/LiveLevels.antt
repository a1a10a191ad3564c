-- R-8: a live pool of four-word nodes beside one of two-word nodes that unpacks to it: a node in use is reached on its own level and on no other, and
-- the two-word pool is sound.
use Rattle.std.specs.Prelude.{◌≡◌, refl, true, List}
use Rattle.std.proofs.Common.{sym, ◌∙◌, arith}
use Rattle.std.proofs.Math.Path.{subst}
use Prim.Native.Nat.{ℕ, zero, suc, ◌+◌, ◌*◌, ◌≤◌, ◌<◌, ◌^◌}
use Rattle.std.proofs.Math.Decide.{ℕ_discrete}
use Rattle.words.specs.Basics.{none, count}
use Rattle.words.specs.Chains.{chain_cong}
use Rattle.words.specs.Counting.{δ₀_inv, how_many-some}
use Rattle.words.specs.Tallies.{how_many_one}
use Rattle.sizes.specs.Heights.{height_covers}
use Rattle.sizes.specs.Sizes.{height}
use Rattle.pool.specs.Pool as Four
use Rattle.pool.specs.Theory.Invariant.{links-left, links-right, links_at, used_left, used_right, used_out}
use Rattle.pool.specs.Theory.Operations.{Live}
use Rattle.pool.specs.Theory.Soundness.{live-sound}
use Rattle.pool.specs.Theory.Trees.{TreeAt, PoolSound, tree_in, tree-left, tree-right, tree-bare, tree_leaf, visits}
use Rattle.packed.specs.Pool.{content}
use Rattle.packed.proofs.Theory.Unpacks.{Unpacks}
use Rattle.soundness.specs.PackedTrees.{reached_on, is_on, levels_of}
use Rattle.soundness.proofs.Theory.PackedSentences.{PackedTree, PackedSound}
use Rattle.soundness.proofs.Theory.Levels.{SameLinks, on_cases, on_root, on_is, visits_on, levels_visits, visits-levels_of, levels_δ₀, holders-same}

module _ (n N : ℕ) (some : 0 < n) (most : N ≤ 16384) {level size : ℕ → ℕ} {tail ws₂ ws₄ : List ℕ} {free : ℕ} {fs rs : List ℕ}
    (L : Live N (height n) n level size ws₄ free fs rs) (U : Unpacks N tail ws₂ ws₄) where
  small : N ≤ none
  small = omega arith

  sound : PoolSound N (height n) n ws₄ free fs rs
  sound = live-sound N (height n) n small some (height_covers n) L

  -- node i is in use, the root of a tree of level l and group g, and of that level
  abbrev At : ℕ → ℕ → ℕ → Type 0
  At l g i = TreeAt n N ws₄ l g i × (0 < Four.refcount ws₄ i) × (level i ≡ l)

  at_in : (l g i : ℕ) → At l g i → i < N
  at_in l g i a = tree_in n N ws₄ l g i a.0

  at_left : (l g i : ℕ) → At (suc l) g i → At l (2 * g) (Four.left ws₄ i)
  at_left l g i a =
      let t = tree-left n N ws₄ l g i a.0 in
      let b = tree_in n N ws₄ l (2 * g) (Four.left ws₄ i) t in
      let k = links-left N level size l (size i) (Four.left ws₄ i) (Four.right ws₄ i) (links_at L.inv i (suc l) (at_in (suc l) g i a) a.1 a.2) in
      (t, used_left L.inv i (Four.left ws₄ i) (at_in (suc l) g i a) a.1 b (omega arith) refl, k.1)

  at_right : (l g i : ℕ) → At (suc l) g i → (2 * g + 1) * 2 ^ l < n → At l (2 * g + 1) (Four.right ws₄ i)
  at_right l g i a h =
      let t = tree-right n N ws₄ l g i a.0 h in
      let b = tree_in n N ws₄ l (2 * g + 1) (Four.right ws₄ i) t in
      let k = links-right N level size l (size i) (Four.left ws₄ i) (Four.right ws₄ i) (links_at L.inv i (suc l) (at_in (suc l) g i a) a.1 a.2) (omega arith) in
      (t, used_right L.inv i (Four.right ws₄ i) (at_in (suc l) g i a) a.1 b (omega arith) refl, k.1)

  at_links : (l g i : ℕ) → At (suc l) g i → SameLinks n ws₂ ws₄ i
  at_links l g i a = U.inner i (at_in (suc l) g i a) a.1 (omega (arith, at_in l (2 * g) (Four.left ws₄ i) (at_left l g i a)))

  at_root_lem : (e : ℕ) → 0 < count e rs → At (height n) 0 e
  at_root_lem e p = (sound.trees e p, used_out L.inv e (L.roots e p).inside (omega (arith, (L.roots e p).inside)) p, (L.roots e p).at_level)

  at_tree : (l g i : ℕ) → At l g i → PackedTree n N ws₂ l g i
  unfolding PackedTree
  at_tree zero g i a = at_in 0 g i a
  at_tree (suc l) g i a =
      let s = at_links l g i a in (
        at_in (suc l) g i a,
        subst (PackedTree n N ws₂ l (2 * g)) (sym s.0) (at_tree l (2 * g) (Four.left ws₄ i) (at_left l g i a)),
        (λ h. subst (PackedTree n N ws₂ l (2 * g + 1)) (sym s.1) (at_tree l (2 * g + 1) (Four.right ws₄ i) (at_right l g i a h))),
        (λ h. s.1 ∙ tree-bare n N ws₄ l g i a.0 h),
      )

  -- what is reached on level k is of level k
  on_at : (k i : ℕ) → 0 < count i (reached_on n ws₂ rs k) → (d : ℕ) × At k d i
  on_at k i p =
      let w = on_root n ws₂ k i rs p in
      on_cases n ws₂ (λ l g c. At l g c → (d : ℕ) × At k d i) k i
      (λ g a. (g, a))
      (λ l g c r a. r (subst (At l (2 * g)) (sym (at_links l g c a).0) (at_left l g c a)))
      (λ l g c h r a. r (subst (At l (2 * g + 1)) (sym (at_links l g c a).1) (at_right l g c a h)))
      (height n) 0 w.0 w.2 (at_root_lem w.0 w.1)

  pub on_level : (k i : ℕ) → 0 < count i (reached_on n ws₂ rs k) → (0 < Four.refcount ws₄ i) × (level i ≡ k)
  on_level k i p = (let w = on_at k i p in (w.1.1, w.1.2))

  inner-links : (k j : ℕ) → 0 < count j (reached_on n ws₂ rs (suc k)) → SameLinks n ws₂ ws₄ j
  inner-links k j p = (let w = on_at (suc k) j p in at_links k w.0 j w.1)

  leaf_bare : (j : ℕ) → 0 < count j (reached_on n ws₂ rs 0) → (Four.left ws₄ j ≡ none) × (Four.right ws₄ j ≡ none)
  leaf_bare j p = (let w = on_at 0 j p in tree_leaf n N ws₄ w.0 j w.1.0)

  -- a node in use is reached on its level
  pub used_on : (i : ℕ) → i < N → 0 < Four.refcount ws₄ i → 0 < count i (reached_on n ws₂ rs (level i))
  used_on i b p = elim (ℕ_discrete (visits n (height n) ws₄ rs i) 0) [
    | yes e ↦ absurd (omega (arith, (sound.unreached i b e).0))
    | no e ↦ (
        let w = visits_on n N small ws₂ ws₄ rs inner-links leaf_bare i (omega arith) in
        let a = on_at w.0 i w.1 in
        subst (λ k. 0 < count i (reached_on n ws₂ rs k)) (sym a.1.2) w.1)
  ]

  level_one : (i : ℕ) → levels_of n ws₂ rs i ≤ 1
  level_one i = elim (ℕ_discrete (levels_of n ws₂ rs i) 0) [
    | yes e ↦ omega arith
    | no e ↦ (
        let w = how_many-some (suc (height n)) (is_on n ws₂ rs i) (omega arith) in
        let of : (k : ℕ) → is_on n ws₂ rs i k ≡ true → level i ≡ k = (λ k t. (on_at k i (on_is n ws₂ rs i k t)).1.2) in
        omega (arith, how_many_one (suc (height n)) w.0 (is_on n ws₂ rs i) w.1 w.2 (λ j b t. sym (of j t) ∙ of w.0 w.2)))
  ]

  free_next_lem : (x : ℕ) → x < N → 0 < count x fs → content ws₂ x ≡ Four.left ws₄ x
  free_next_lem x b o = U.free x b (δ₀_inv (Four.refcount ws₄ x) (omega (arith, L.inv.listed x b)))

  pub packed_sound : PackedSound N n ws₂ free fs rs
  packed_sound = record {
    trees = λ e p. at_tree (height n) 0 e (at_root_lem e p);
    levels = λ i b. level_one i;
    refcounts = λ i b p. U.counts i b ∙ sound.refcounts i b (levels_visits n N small ws₂ ws₄ rs inner-links leaf_bare i p) ∙ sym (holders-same n N small ws₂ ws₄ rs inner-links leaf_bare i b);
    unreached = λ i b z. U.counts i b ∙ (sound.unreached i b (unvisited i z)).0;
    chain = chain_cong N (Four.left ws₄) (content ws₂) fs free free_next_lem sound.chain;
    once = λ i b. sound.once i b ∙ sym (levels_δ₀ n N small ws₂ ws₄ rs inner-links leaf_bare i);
  }
    where
      unvisited : (i : ℕ) → levels_of n ws₂ rs i ≡ 0 → visits n (height n) ws₄ rs i ≡ 0
      unvisited i z = elim (ℕ_discrete (visits n (height n) ws₄ rs i) 0) [ yes e ↦ e | no e ↦ absurd (omega (arith, visits-levels_of n N small ws₂ ws₄ rs inner-links leaf_bare i (omega arith))) ]
