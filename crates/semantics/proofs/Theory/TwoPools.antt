-- R-8: the pools of two-word nodes: what holds of them is that they unpack to a pool of four-word nodes of which it holds; so they have the laws too.
use Rattle.std.specs.Prelude.{◌≡◌, true, drop, eqb, ltb}
use Rattle.std.proofs.Math.Path.{refl, ap}
use Rattle.std.proofs.Common.{sym, ◌∙◌, subst, inl, inr, arith}
use mathlib.Core.List.Memᴰ.{head as here}
use mathlib.Core.List.Memᴰ.{tail as there}
use mathlib.Core.List.{Memᴰ as In}
use mathlib.Core.List.{List, [], ◌∷◌}
use Prim.Native.Nat.{ℕ, zero, suc, ◌+◌, ◌-◌, ◌*◌, ◌≤◌, ◌<◌}
use Rattle.std.proofs.Math.ListN.{length, length-drop}
use Rattle.std.proofs.lemmas.List.{length-map}
use Rattle.words.specs.Basics.{count, plus}
use Rattle.words.specs.Tests.{decided}
use Rattle.sizes.specs.Sizes.{height, tree_nodes}
use Rattle.sizes.specs.Heights.{height_covers}
use Rattle.pool.specs.Pool as Four
use Rattle.pool.specs.Theory.Sharing.{Frame, roots_of, root_of_lem}
use Rattle.packed.specs.Pool.{refcount, left, right, read_at, retain, freed, release, rest, write}
use Rattle.packed.proofs.Theory.Unpacks.{Unpacks, length-first, length_both}
use Rattle.packed.proofs.Theory.Reads.{unpacks_reads, unpacks_rest}
use Rattle.packed.proofs.Theory.Retain.{unpacks_retain}
use Rattle.packed.proofs.Theory.Release.{unpacks_release}
use Rattle.packed.proofs.Theory.Writes.{unpacks_write}
use Rattle.packed.proofs.Theory.Elsewhere.{unpacks_elsewhere}
use Rattle.packed.proofs.Theory.Start.{start_unpacks}
use Rattle.packed.proofs.Theory.Words.{words-retain, words-release, words-write, words-init_pool}
use Rattle.frames.specs.Widths.{max_places}
use Rattle.model.specs.History.{History}
use Rattle.soundness.specs.PackedTrees.{free_nodes}
use Rattle.soundness.specs.Layout.{four_words, two_words, pool_sound}
use Rattle.soundness.specs.Unpacked.{unpacked}
use Rattle.soundness.proofs.Theory.Unpacked.{length-unpacked}
use Rattle.soundness.proofs.Theory.PackedSound.{packed_four, four_packed}
use Rattle.semantics.proofs.Theory.Relation.{Trees, Kept, TreeLaws}
use Rattle.semantics.proofs.Theory.Pools.{Beyond, Elsewhere, Started, PoolLaws}
use Rattle.semantics.proofs.Theory.FourPools.{LiveTrees, GoodTrees, good_live, four_pools}

-- two-word nodes that unpack to four-word nodes of which P holds
pub record Unpacking (N : ℕ) (P : Trees) (ws : List ℕ) (free k : ℕ) (Fs : List Frame) : Type 0 where
  pub tail : List ℕ
  pub ws₄ : List ℕ
  pub unpacks : Unpacks N tail ws ws₄
  pub trees : P ws₄ free k Fs

-- the same words past the nodes
beyond : {N : ℕ} {tail ws ws' ws₄ ws₄' : List ℕ} → Unpacks N tail ws ws₄ → Unpacks N tail ws' ws₄' → Beyond two_words N ws ws'
beyond U U' = (U'.long ∙ sym U.long, U'.past ∙ sym U.past)

module _ (N n : ℕ) (most : N ≤ 16384) where
  -- ---- the frames read what they read in the four-word nodes

  pub reads : {ws₄ tail ws : List ℕ} {free k : ℕ} {Fs : List Frame} → LiveTrees N n ws₄ free k Fs → Unpacks N tail ws ws₄ → (F : Frame) → In F Fs → (y : ℕ) → y < n → read_at (height n) ws F.0 y ≡ Four.read_at (height n) ws₄ F.0 y
  reads {Fs = Fs} T U F m y b = unpacks_reads N (height n) n most (height_covers n) T.live U F.0 y (root_of_lem F Fs m) b

  module _ {ws₄ tail ws ws₄' tail' ws' : List ℕ} {free k free' k' : ℕ} {Fs Fs' Ks : List Frame} (T : LiveTrees N n ws₄ free k Fs) (U : Unpacks N tail ws ws₄) (T' : LiveTrees N n ws₄' free' k' Fs') (U' : Unpacks N tail' ws' ws₄') where
    kept : ((F : Frame) → In F Ks → In F Fs) → ((F : Frame) → In F Ks → In F Fs') → Kept four_words (height n) n ws₄ ws₄' Ks → Kept two_words (height n) n ws ws' Ks
    kept old new K F m y b = reads T' U' F (new F m) y b ∙ K F m y b ∙ sym (reads T U F (old F m) y b)

  -- ---- the operations

  module _ {ws₄ tail ws : List ℕ} {free k : ℕ} where
    pub spawn_unpacks : (F : Frame) (Fs : List Frame) → length Fs < max_places → LiveTrees N n ws₄ free k (F ∷ Fs) → Unpacks N tail ws ws₄ → Unpacks N tail (retain ws F.0) (Four.retain ws₄ F.0)
    spawn_unpacks F Fs few T U =
        unpacks_retain N (height n) n most T.live U (omega (arith, length-map (F ∷ Fs) (λ (K : Frame). K.0))) F.0 (root_of_lem F (F ∷ Fs) (here refl))

    pub return_unpacks : (F : Frame) (Fs : List Frame) → LiveTrees N n ws₄ free k (F ∷ Fs) → Unpacks N tail ws ws₄
        → let p₂ = release N (height n) ws free k F.0 in let p₄ = Four.release (height n) ws₄ free k F.0 in Unpacks N tail p₂.0 p₄.0 × (p₂.1 ≡ p₄.1) × (p₂.2 ≡ p₄.2)
    return_unpacks F Fs T U = unpacks_release N (height n) n most k F.0 (roots_of Fs) T.counted T.live U

    pub rest_unpacks : (F : Frame) (Fs : List Frame) (x : ℕ) → x < n → LiveTrees N n ws₄ free k (F ∷ Fs) → Unpacks N tail ws ws₄ → rest (height n) ws F.0 x ≡ Four.rest (height n) ws₄ F.0 x
    rest_unpacks F Fs x b T U = unpacks_rest N (height n) n most (height_covers n) T.live U F.0 x (root_of_lem F (F ∷ Fs) (here refl)) b

    pub write_unpacks : (F : Frame) (Fs : List Frame) (x v : ℕ) → length Fs < max_places → x < n → rest (height n) ws F.0 x ≤ k → LiveTrees N n ws₄ free k (F ∷ Fs) → Unpacks N tail ws ws₄
        → let p₂ = write (height n) ws free k F.0 x v in let p₄ = Four.write (height n) ws₄ free k F.0 x v in
        Unpacks N tail p₂.0 p₄.0 × (p₂.1 ≡ p₄.1) × (p₂.2 ≡ p₄.2) × (p₂.3 ≡ p₄.3)
    write_unpacks F Fs x v few b enough T U =
        unpacks_write N (height n) n most (height_covers n) k F.0 (roots_of Fs) x v T.live U b T.counted (omega (arith, rest_unpacks F Fs x b T U, enough)) (omega (arith, length-map Fs (λ (K : Frame). K.0)))

  -- ---- the laws

  module _ (P : Trees) (lives : (ws : List ℕ) (free k : ℕ) (Fs : List Frame) → P ws free k Fs → LiveTrees N n ws free k Fs) where
    moved : {tail ws ws₄ : List ℕ} {free free' k k' : ℕ} {Fs : List Frame} → Unpacks N tail ws ws₄ → free' ≡ free → k' ≡ k → P ws₄ free k Fs → Unpacking N P ws free' k' Fs
    moved {tail} {ws} {ws₄} {free} {free'} {k} {k'} {Fs} U e f p = record { tail = tail; ws₄ = ws₄; unpacks = U; trees = subst (λ z. P ws₄ free' z Fs) (sym f) (subst (λ z. P ws₄ z k Fs) (sym e) p) }

    laws : TreeLaws four_words N n P → TreeLaws two_words N n (Unpacking N P)
    laws A = record {
      perm = λ ws free k Fs Fs' p T. record { tail = T.tail; ws₄ = T.ws₄; unpacks = T.unpacks; trees = A.perm T.ws₄ free k Fs Fs' p T.trees };
      spawn = λ ws free k F Fs few T.
          let B = A.spawn T.ws₄ free k F Fs few T.trees in
          let U = spawn_unpacks F Fs few (lives _ _ _ _ T.trees) T.unpacks in
          (moved U refl refl B.0, kept (lives _ _ _ _ T.trees) T.unpacks (lives _ _ _ _ B.0) U (λ K m. m) (λ K m. there m) B.1);
      return = λ ws free k F Fs T.
          let B = A.return T.ws₄ free k F Fs T.trees in
          let U = return_unpacks F Fs (lives _ _ _ _ T.trees) T.unpacks in
          (moved U.0 U.1 U.2 B.0, kept (lives _ _ _ _ T.trees) T.unpacks (lives _ _ _ _ B.0) U.0 (λ K m. there m) (λ K m. m) B.1);
      write = λ ws free k root h Fs x v m few bx enough m≢ fresh T.
          let L = lives _ _ _ _ T.trees in
          let less : Four.rest (height n) T.ws₄ root x ≤ k = omega (arith, rest_unpacks (root, h) Fs x bx L T.unpacks, enough) in
          let B = A.write T.ws₄ free k root h Fs x v m few bx less m≢ fresh T.trees in
          let U = write_unpacks (root, h) Fs x v few bx enough L T.unpacks in
          let p₂ : List ℕ × ℕ × ℕ × ℕ = write (height n) ws free k root x v in
          let p₄ : List ℕ × ℕ × ℕ × ℕ = Four.write (height n) T.ws₄ free k root x v in
          let own : (y : ℕ) → y < n → read_at (height n) p₂.0 p₄.3 y ≡ Four.read_at (height n) p₄.0 p₄.3 y = λ y b. reads (lives _ _ _ _ B.0) U.0 _ (here refl) y b in
          rw U.3 (
            moved U.0 U.1 U.2 B.0,
            kept L T.unpacks (lives _ _ _ _ B.0) U.0 (λ K m. there m) (λ K m. there m) B.1,
            own x bx ∙ B.2,
            λ y b d. own y b ∙ B.3 y b d ∙ sym (reads L T.unpacks (root, h) (here refl) y b),
          );
    }

    elsewhere : Elsewhere two_words N n (Unpacking N P)
    elsewhere ws ws' free k Fs T S =
        let U = unpacks_elsewhere (drop (2 * N) ws') ws' S.same (omega (arith, S.room, length-drop (2 * N) ws')) refl T.unpacks in (
          moved U refl refl T.trees,
          λ F m y b. reads (lives _ _ _ _ T.trees) U F m y b ∙ sym (reads (lives _ _ _ _ T.trees) T.unpacks F m y b),
        )

-- ---- the two predicates

abbrev pub Live₂ : ℕ → ℕ → Trees
Live₂ N n = Unpacking N (LiveTrees N n)

abbrev pub Good₂ : ℕ → ℕ → Trees
Good₂ N n = Unpacking N (GoodTrees N n)

module _ (N n : ℕ) (most : N ≤ 16384) (some : 0 < n) where
  good_start : (ws vs : List ℕ) → tree_nodes n ≤ N → 2 * N ≤ length ws → Started two_words N n (Good₂ N n) ws vs (two_words.start ws n N vs)
  unfolding four_pools
  good_start ws vs fits room =
      let ws₄ : List ℕ = unpacked n [] N ws in
      let S = start_unpacks ws ws₄ n N vs fits most room (omega (arith, length-unpacked n [] ws N)) in
      let G = four_pools.good_start N n most some ws₄ vs fits (omega (arith, length-unpacked n [] ws N)) in (
        moved N n most (GoodTrees N n) (λ _ _ _ _ G. good_live G) S.0 S.1 refl G.0,
        (omega (arith, S.0.long, length-drop (2 * N) ws), S.0.past),
        λ y b. reads N n most (good_live G.0) S.0 (0, []) (here refl) y b ∙ G.2 y b,
      )

  -- ---- the sentences on trees

  module _ (ws : List ℕ) (first : ℕ) (rs : List ℕ) (Fs : List Frame) (roots : (i : ℕ) → count i rs ≡ count i (roots_of Fs)) where
    pool_live : 2 * N ≤ length ws → pool_sound two_words n N ws first rs ≡ true → Live₂ N n ws first (length (free_nodes N ws first)) Fs
    unfolding four_pools
    pool_live room e =
        let S = packed_four n N some most ws first rs room e in
        moved N n most (LiveTrees N n) (λ _ _ _ _ T. T) S.0 refl (ap length S.2) (four_pools.pool_live n N most some (unpacked n rs N ws) first rs Fs roots S.0.room S.1)

    live_pool : (k : ℕ) → Live₂ N n ws first k Fs → (pool_sound two_words n N ws first rs ≡ true) × (length (free_nodes N ws first) ≡ k)
    unfolding four_pools
    live_pool k T =
        let S = four_pools.live_pool n N most some T.ws₄ first rs Fs roots k T.trees in
        let Q = four_packed n N some most first rs T.unpacks S.0 in
        (Q.0, ap length Q.1 ∙ S.1)

  trees_all_free : (ws : List ℕ) (free k : ℕ) (Fs : List Frame) → Live₂ N n ws free k Fs → roots_of Fs ≡ [] → (k ≡ N) × ((i : ℕ) → i < N → count i (free_nodes N ws free) ≡ 1)
  unfolding four_pools
  trees_all_free ws free k Fs T e =
      let S = four_pools.live_pool n N most some T.ws₄ free (roots_of Fs) Fs (λ i. refl) k T.trees in
      let Q = four_packed n N some most free (roots_of Fs) T.unpacks S.0 in
      let A = four_pools.trees_all_free N n most some T.ws₄ free k Fs T.trees e in
      (A.0, λ i b. ap (count i) Q.1 ∙ A.1 i b)

  -- ---- what a write leaves

  module _ (ws : List ℕ) (free k root : ℕ) (h : History) (Fs : List Frame) (x v : ℕ) (few : length Fs < max_places) (bx : x < n) (enough : rest (height n) ws root x ≤ k) (T : Live₂ N n ws free k ((root, h) ∷ Fs)) where
    write_beyond : Beyond two_words N ws (write (height n) ws free k root x v).0
    write_beyond = beyond T.unpacks (write_unpacks N n most (root, h) Fs x v few bx enough T.trees T.unpacks).0

    write_takes : (write (height n) ws free k root x v).2 + rest (height n) ws root x ≡ k
    unfolding four_pools
    write_takes =
        let e = rest_unpacks N n most (root, h) Fs x bx T.trees T.unpacks in
        let less : Four.rest (height n) T.ws₄ root x ≤ k = omega (arith, e, enough) in
        omega (arith, e, (write_unpacks N n most (root, h) Fs x v few bx enough T.trees T.unpacks).2, four_pools.write_takes N n most some T.ws₄ free k root h Fs x v few bx less T.trees)

-- ---- lengths

length-release : (N l : ℕ) (ws : List ℕ) (free k i : ℕ) → length (release N l ws free k i).0 ≡ length ws
unfolding release
length-release N zero ws free k i = elim (decided (ltb i N)) [
  | inl e ↦ elim (decided (eqb (refcount ws i - 1) 0)) [
    | inl d ↦ rw (e, d, release) (length_both ws i 0 free)
    | inr d ↦ rw (e, d, release) (length-first ws i (refcount ws i - 1) 0)
  ]
  | inr e ↦ rw (e, release) refl
]
length-release N (suc l) ws free k i =
    let p : List ℕ × ℕ × ℕ = release N l (freed ws free i) i (plus k 1) (left ws i) in
    let first : length p.0 ≡ length ws = length-release N l (freed ws free i) i (plus k 1) (left ws i) ∙ length_both ws i 0 free in
    let both : length (release N l p.0 p.1 p.2 (right ws i)).0 ≡ length ws = length-release N l p.0 p.1 p.2 (right ws i) ∙ first in
    elim (decided (ltb i N)) [
      | inl e ↦ elim (decided (eqb (refcount ws i - 1) 0)) [
        | inl d ↦ rw (e, d, release) both
        | inr d ↦ rw (e, d, release) (length-first ws i (refcount ws i - 1) 0)
      ]
      | inr e ↦ rw (e, release) refl
    ]

-- ---- all of them

pub two_pools : PoolLaws two_words
unfolding four_pools
two_pools = record {
  version_le = omega arith;
  whole = λ k. omega arith;
  LiveTrees = Live₂;
  GoodTrees = Good₂;
  good_live = λ G. record { tail = G.tail; ws₄ = G.ws₄; unpacks = G.unpacks; trees = good_live G.trees };
  live_room = λ T. omega (arith, T.unpacks.long);
  live_root = λ T e b. (T.trees.live.roots e b).inside;
  live_laws = λ N n most some. laws N n most (LiveTrees N n) (λ _ _ _ _ T. T) (four_pools.live_laws N n most some);
  good_laws = λ N n most some. laws N n most (GoodTrees N n) (λ _ _ _ _ G. good_live G) (four_pools.good_laws N n most some);
  spawn_beyond = λ N n most some ws free k F Fs few T. beyond T.unpacks (spawn_unpacks N n most F Fs few T.trees T.unpacks);
  return_beyond = λ N n most some ws free k F Fs T. beyond T.unpacks (return_unpacks N n most F Fs T.trees T.unpacks).0;
  write_beyond = write_beyond;
  write_takes = write_takes;
  pool_live = λ n N most some. pool_live N n most some;
  live_pool = λ n N most some. live_pool N n most some;
  trees_all_free = trees_all_free;
  live_trees = λ N n most. elsewhere N n most (LiveTrees N n) (λ _ _ _ _ T. T);
  good_trees = λ N n most. elsewhere N n most (GoodTrees N n) (λ _ _ _ _ G. good_live G);
  good_start = good_start;
  good_free = λ N n most some G. four_pools.good_free N n most some G.trees;
  good_rest = λ N n most some {root = root} {h} {Fs} e b fresh G.
      rw (rest_unpacks N n most (root, h) Fs e.splitter b (good_live G.trees) G.unpacks) (four_pools.good_rest N n most some e b fresh G.trees);
  length-release = length-release;
  words-retain = words-retain;
  words-release = words-release;
  words-write = words-write;
  words-start = words-init_pool;
}

-- R-9: what unpacks to the four-word pool of a run from a start is such a pool
pub good_unpacking : {N n : ℕ} {ws : List ℕ} {free k : ℕ} {Fs : List Frame} → Good₂ N n ws free k Fs → two_pools.GoodTrees N n ws free k Fs
unfolding two_pools
good_unpacking T = T
