-- The pools of four-word nodes: the two predicates, and their laws.
use Rattle.std.specs.Prelude.{◌≡◌, refl, true, List, [], ◌∷◌, ℕ, zero, suc, ◌+◌, ◌-◌, ◌*◌, ◌≤◌, ◌<◌, length, eqb}
use Rattle.std.proofs.Common.{sym, ap, ◌∙◌, inl, inr, arith}
use mathlib.Core.List.Memᴰ.{head as here}
use Rattle.std.proofs.lemmas.List.{length-map}
use Rattle.words.specs.Basics.{none, count, plus}
use Rattle.words.specs.Tests.{decided}
use Rattle.sizes.specs.Sizes.{height}
use Rattle.sizes.specs.Heights.{height_covers}
use Rattle.pool.specs.Pool.{refcount, left, right, freed, retain, release, rest, write}
use Rattle.pool.specs.Theory.Nodes.{length-set_node, length-set_refcount}
use Rattle.pool.specs.Theory.Operations.{Live, Spawned, Returned, live_perm, live-spawn, live_return}
use Rattle.pool.specs.Theory.Write.{Written, live-write}
use Rattle.pool.specs.Theory.Sharing.{Frame, roots_of, root_of_lem}
use Rattle.pool.specs.Theory.Reached.{all_free}
use Rattle.pool.specs.Theory.Soundness.{link_level, link_size, sound-live, live-sound}
use Rattle.pool.specs.Theory.Good.{Good, count_roots, good_perm, good_spawn, good_return, good_write, good_start, good_free, good_rest}
use Rattle.pool.specs.Theory.Elsewhere as FourElsewhere
use Rattle.pool.specs.Theory.Elsewhere.{live_elsewhere, tree_elsewhere, good_elsewhere}
use Rattle.pool.specs.Theory.Words.{words-retain, words-release, words-write, words-init_pool}
use Rattle.frames.specs.Widths.{max_places}
use Rattle.model.specs.History.{History}
use Rattle.soundness.specs.Trees.{free_nodes}
use Rattle.soundness.specs.Layout.{four_words, pool_sound}
use Rattle.soundness.proofs.Theory.PoolSentences.{pool_fact, fact_pool}
use Rattle.semantics.proofs.Theory.Relation.{Trees, TreeLaws, event}
use Rattle.semantics.proofs.Theory.Pools.{Beyond, SameNodes, Elsewhere, PoolLaws}

-- a live pool of N nodes for n splitters: the frames' histories do not matter
pub record LiveTrees (N n : ℕ) (ws : List ℕ) (free k : ℕ) (Fs : List Frame) : Type 0 where
  pub level : ℕ → ℕ
  pub size : ℕ → ℕ
  pub fs : List ℕ
  pub counted : k ≡ length fs
  pub live : Live N (height n) n level size ws free fs (roots_of Fs)

-- the pool of a run from a start
abbrev pub GoodTrees : ℕ → ℕ → Trees
GoodTrees N n ws free k Fs = Good N n ws free k Fs

pub good_live : {N n : ℕ} {ws : List ℕ} {free k : ℕ} {Fs : List Frame} → GoodTrees N n ws free k Fs → LiveTrees N n ws free k Fs
good_live G = record { level = G.level; size = G.size; fs = G.fs; counted = G.counted; live = G.live }

-- the words reach all nodes
pub live_room : {N n : ℕ} {ws : List ℕ} {free k : ℕ} {Fs : List Frame} → LiveTrees N n ws free k Fs → 4 * N ≤ length ws
live_room T = T.live.inv.room

module _ (N n : ℕ) (most : N ≤ 16384) (some : 0 < n) where
  small : N ≤ none
  small = omega arith

  -- ---- the operations on a live pool

  spawned : (ws : List ℕ) (free k : ℕ) (F : Frame) (Fs : List Frame) → length Fs < max_places → (T : LiveTrees N n ws free k (F ∷ Fs))
      → Spawned N (height n) n T.level T.size ws free T.fs (roots_of (F ∷ Fs)) F.0 (retain ws F.0)
  spawned ws free k F Fs few T =
      live-spawn N (height n) n small (height_covers n) T.live (omega (arith, length-map (F ∷ Fs) (λ (K : Frame). K.0))) F.0 (root_of_lem F (F ∷ Fs) (here refl))

  returned : (ws : List ℕ) (free k : ℕ) (F : Frame) (Fs : List Frame) → (T : LiveTrees N n ws free k (F ∷ Fs))
      → Returned N (height n) n T.level T.size ws (roots_of Fs) (release (height n) ws free k F.0)
  returned ws free k F Fs T = live_return N (height n) n small (height_covers n) k F.0 (roots_of Fs) T.counted T.live

  write_on : (ws : List ℕ) (free k root : ℕ) (h : History) (Fs : List Frame) (x v : ℕ) → length Fs < max_places → x < n → rest (height n) ws root x ≤ k → (T : LiveTrees N n ws free k ((root, h) ∷ Fs))
      → Written N (height n) n T.level T.size ws (roots_of Fs) root x v (write (height n) ws free k root x v) × ((write (height n) ws free k root x v).2 + rest (height n) ws root x ≡ k)
  write_on ws free k root h Fs x v few bx enough T =
      live-write N (height n) n small (height_covers n) T.level T.size ws free k T.fs (roots_of Fs) root x v T.live bx T.counted enough
      (omega (arith, length-map Fs (λ (K : Frame). K.0)))

  pub live_laws : TreeLaws four_words N n (LiveTrees N n)
  live_laws = record {
    perm = λ ws free k Fs Fs' p T. record {
      level = T.level;
      size = T.size;
      fs = T.fs;
      counted = T.counted;
      live = live_perm N (height n) n small (height_covers n) (roots_of Fs') (count_roots p) T.live;
    };
    spawn = λ ws free k F Fs few T. (let S = spawned ws free k F Fs few T in (
      record { level = T.level; size = T.size; fs = T.fs; counted = T.counted; live = S.live },
      λ K m. (S.same K.0 (root_of_lem K (F ∷ Fs) m)).reads,
    ));
    return = λ ws free k F Fs T. (let R = returned ws free k F Fs T in (
      record { level = T.level; size = T.size; fs = R.fs'; counted = R.counted; live = R.live },
      λ K m. (R.same K.0 (root_of_lem K Fs m)).reads,
    ));
    write = λ ws free k root h Fs x v m few bx enough m≢ fresh T. (let W = (write_on ws free k root h Fs x v few bx enough T).0 in (
      record { level = W.level'; size = W.size'; fs = W.fs'; counted = W.counted; live = W.live },
      (λ K m. (W.same K.0 (root_of_lem K Fs m)).reads),
      W.new_read,
      W.old_reads,
    ));
  }

  pub good_laws : TreeLaws four_words N n (GoodTrees N n)
  good_laws = record {
    perm = λ ws free k Fs Fs' p G. good_perm N n most some p G;
    spawn = λ ws free k F Fs few G. (let A = good_spawn N n most some ws free k F Fs (omega arith) G in (A.good, A.kept));
    return = λ ws free k F Fs G. (let A = good_return N n most some ws free k F Fs G in (A.good, A.kept));
    write = λ ws free k root h Fs x v m few bx enough m≢ fresh G.
        (let A = good_write N n most some ws free k root h Fs (event x m) v (omega arith) bx enough (m≢, fresh) G in (A.0.good, A.0.kept, A.1, A.2));
  }

  -- ---- what they leave

  pub spawn_beyond : (ws : List ℕ) (free k : ℕ) (F : Frame) (Fs : List Frame) → length Fs < max_places → LiveTrees N n ws free k (F ∷ Fs) → Beyond four_words N ws (retain ws F.0)
  spawn_beyond ws free k F Fs few T = (let S = spawned ws free k F Fs few T in (S.len, S.rest))

  pub return_beyond : (ws : List ℕ) (free k : ℕ) (F : Frame) (Fs : List Frame) → LiveTrees N n ws free k (F ∷ Fs) → Beyond four_words N ws (release (height n) ws free k F.0).0
  return_beyond ws free k F Fs T = (let R = returned ws free k F Fs T in (R.len, R.rest))

  pub write_beyond : (ws : List ℕ) (free k root : ℕ) (h : History) (Fs : List Frame) (x v : ℕ) → length Fs < max_places → x < n → rest (height n) ws root x ≤ k → LiveTrees N n ws free k ((root, h) ∷ Fs)
      → Beyond four_words N ws (write (height n) ws free k root x v).0
  write_beyond ws free k root h Fs x v few bx enough T = (let W = (write_on ws free k root h Fs x v few bx enough T).0 in (W.len, W.beyond))

  -- a write takes as many nodes as the rest of its path has
  pub write_takes : (ws : List ℕ) (free k root : ℕ) (h : History) (Fs : List Frame) (x v : ℕ) → length Fs < max_places → x < n → rest (height n) ws root x ≤ k → LiveTrees N n ws free k ((root, h) ∷ Fs)
      → (write (height n) ws free k root x v).2 + rest (height n) ws root x ≡ k
  write_takes ws free k root h Fs x v few bx enough T = (write_on ws free k root h Fs x v few bx enough T).1

-- ---- the sentences on trees

module _ (n N : ℕ) (most : N ≤ 16384) (some : 0 < n) (ws : List ℕ) (first : ℕ) (rs : List ℕ) (Fs : List Frame) (roots : (i : ℕ) → count i rs ≡ count i (roots_of Fs)) where
  few : N ≤ none
  few = omega arith

  pub pool_live : 4 * N ≤ length ws → pool_sound four_words n N ws first rs ≡ true → LiveTrees N n ws first (length (free_nodes N ws first)) Fs
  pool_live room e = record {
    level = link_level (height n) ws;
    size = link_size (height n) ws;
    fs = free_nodes N ws first;
    counted = refl;
    live = live_perm N (height n) n few (height_covers n) (roots_of Fs) roots (sound-live N (height n) n few some (height_covers n) (pool_fact n N ws first rs room e));
  }

  pub live_pool : (k : ℕ) → LiveTrees N n ws first k Fs → (pool_sound four_words n N ws first rs ≡ true) × (length (free_nodes N ws first) ≡ k)
  live_pool k T =
      let L = live_perm N (height n) n few (height_covers n) rs (λ i. sym (roots i)) T.live in
      let r = fact_pool n N ws first rs few T.fs (live-sound N (height n) n few some (height_covers n) L) in
      (r.0, ap length r.1 ∙ sym T.counted)

-- ---- the free chain

module _ (N n : ℕ) (most : N ≤ 16384) (some : 0 < n) (ws : List ℕ) (free k : ℕ) (Fs : List Frame) (T : LiveTrees N n ws free k Fs) where
  -- the chain that the check follows is the free list
  pub chain_is : free_nodes N ws free ≡ T.fs
  chain_is = (fact_pool n N ws free (roots_of Fs) (omega arith) T.fs (live-sound N (height n) n (omega arith) some (height_covers n) T.live)).1

  pub trees_all_free : roots_of Fs ≡ [] → (k ≡ N) × ((i : ℕ) → i < N → count i (free_nodes N ws free) ≡ 1)
  trees_all_free e = (let r = all_free N (height n) n (omega arith) (height_covers n) T.live e in (T.counted ∙ r.0, λ i b. ap (count i) chain_is ∙ r.1 i b))

-- ---- the same nodes in another slice

module _ (N n : ℕ) (most : N ≤ 16384) where
  same : {ws ws' : List ℕ} → SameNodes four_words N ws ws' → FourElsewhere.SameNodes N ws ws'
  same S = record { room = S.room; same = S.same }

  pub live_trees : Elsewhere four_words N n (LiveTrees N n)
  live_trees ws ws' free k Fs T S = (
    record { level = T.level; size = T.size; fs = T.fs; counted = T.counted; live = live_elsewhere T.live (same S) },
    λ F m. (tree_elsewhere N (height n) n (omega arith) (height_covers n) T.live (same S) F.0 (root_of_lem F Fs m)).reads,
  )

  pub good_trees : Elsewhere four_words N n (GoodTrees N n)
  good_trees ws ws' free k Fs G S = (good_elsewhere N n most G (same S), (live_trees ws ws' free k Fs (good_live G) S).1)

-- ---- lengths

pub length-release : (l : ℕ) (ws : List ℕ) (free k i : ℕ) → length (release l ws free k i).0 ≡ length ws
unfolding release
length-release zero ws free k i = elim (decided (eqb i none)) [
  | inl e ↦ rw (e, release) refl
  | inr e ↦ elim (decided (eqb (refcount ws i - 1) 0)) [
    | inl d ↦ rw (e, d, release) (length-set_node ws i 0 free 0 0)
    | inr d ↦ rw (e, d, release) (length-set_refcount ws i (refcount ws i - 1))
  ]
]
length-release (suc l) ws free k i =
    let p : List ℕ × ℕ × ℕ = release l (freed ws free i) i (plus k 1) (left ws i) in
    let first : length p.0 ≡ length ws = length-release l (freed ws free i) i (plus k 1) (left ws i) ∙ length-set_node ws i 0 free 0 0 in
    let both : length (release l p.0 p.1 p.2 (right ws i)).0 ≡ length ws = length-release l p.0 p.1 p.2 (right ws i) ∙ first in
    elim (decided (eqb i none)) [
      | inl e ↦ rw (e, release) refl
      | inr e ↦ elim (decided (eqb (refcount ws i - 1) 0)) [
        | inl d ↦ rw (e, d, release) both
        | inr d ↦ rw (e, d, release) (length-set_refcount ws i (refcount ws i - 1))
      ]
    ]

-- ---- all of them

unfoldable pub four_pools : PoolLaws four_words
four_pools = record {
  version_le = omega arith;
  whole = λ k. omega arith;
  LiveTrees = LiveTrees;
  GoodTrees = GoodTrees;
  good_live = λ G. good_live G;
  live_room = λ T. live_room T;
  live_root = λ T e b. (T.live.roots e b).inside;
  live_laws = live_laws;
  good_laws = good_laws;
  spawn_beyond = spawn_beyond;
  return_beyond = return_beyond;
  write_beyond = write_beyond;
  write_takes = write_takes;
  pool_live = pool_live;
  live_pool = live_pool;
  trees_all_free = trees_all_free;
  live_trees = live_trees;
  good_trees = good_trees;
  good_start = λ N n most some ws vs fits room. (let A = good_start N n most some ws vs fits room in (A.0.good, (A.0.len, A.0.rest), A.1));
  good_free = λ N n most some G. good_free N n most some G;
  good_rest = λ N n most some e b fresh G. good_rest N n most some e b fresh G;
  length-release = λ N l ws free k i. length-release l ws free k i;
  words-retain = words-retain;
  words-release = λ N l ws free k i. words-release l ws free k i;
  words-write = words-write;
  words-start = words-init_pool;
}
