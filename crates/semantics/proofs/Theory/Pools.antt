-- What the theory of steps and runs asks of the pools of a layout: two predicates, any live pool, whose frames have no history that counts, and the
-- pool of a run from a start; and laws of them. FourPools and TwoPools have them for the two layouts.
use Rattle.std.specs.Prelude.{◌≡◌, ◌↔◌, true, List, [], ◌∷◌, ℕ, ◌+◌, ◌-◌, ◌*◌, ◌/◌, ◌≤◌, ◌<◌, length, get_or, drop}
use Rattle.words.specs.Basics.{count}
use Rattle.words.specs.Below.{Words}
use Rattle.sizes.specs.Sizes.{height, tree_nodes}
use Rattle.pool.specs.Theory.Sharing.{Frame, Fresh, roots_of}
use Rattle.pool.specs.Theory.InUse.{histories_of}
use Rattle.pool.specs.Theory.Words.{PoolWords, WrittenWords}
use Rattle.frames.specs.Widths.{max_places}
use Rattle.soundness.specs.Layout.{Layout, pool_sound}
use Rattle.model.specs.History.{Event, History, nodes_in_use}
use Rattle.semantics.proofs.Theory.Relation.{Trees, Kept, TreeLaws}

module _ (layout : Layout) where
  -- the words past the N nodes, and how many words there are
  abbrev pub Beyond : ℕ → List ℕ → List ℕ → Type 0
  Beyond N ws ws' = (length ws' ≡ length ws) × (drop (layout.words * N) ws' ≡ drop (layout.words * N) ws)

  -- the same nodes in another slice
  pub record SameNodes (N : ℕ) (ws ws' : List ℕ) : Type 0 where
    pub room : layout.words * N ≤ length ws'
    pub same : (i : ℕ) → i < layout.words * N → get_or ws' i 0 ≡ get_or ws i 0

  -- the predicate P holds there too, and the frames read what they read here
  abbrev pub Elsewhere : ℕ → ℕ → Trees → Type 0
  Elsewhere N n P = (ws ws' : List ℕ) (free k : ℕ) (Fs : List Frame) → P ws free k Fs → SameNodes N ws ws' → P ws' free k Fs × Kept layout (height n) n ws ws' Fs

  -- the pool of N nodes that a start fills, for n splitters with the values vs
  abbrev pub Started : ℕ → ℕ → Trees → List ℕ → List ℕ → List ℕ × ℕ → Type 0
  Started N n P ws vs p =
      P p.0 p.1 (N - tree_nodes n) ((0, []) ∷ []) × Beyond N ws p.0 × ((y : ℕ) → y < n → layout.read (height n) p.0 0 y ≡ get_or vs y 0)

  pub record PoolLaws : Type 1 where
    pub version_le : layout.version ≤ 4
    pub whole : (k : ℕ) → layout.words * (k / layout.words) ≤ k
    -- a live pool of N nodes for n splitters, and that of a run from a start
    pub LiveTrees : ℕ → ℕ → Trees
    pub GoodTrees : ℕ → ℕ → Trees
    pub good_live : {N n : ℕ} {ws : List ℕ} {free k : ℕ} {Fs : List Frame} → GoodTrees N n ws free k Fs → LiveTrees N n ws free k Fs
    pub live_room : {N n : ℕ} {ws : List ℕ} {free k : ℕ} {Fs : List Frame} → LiveTrees N n ws free k Fs → layout.words * N ≤ length ws
    pub live_root : {N n : ℕ} {ws : List ℕ} {free k : ℕ} {Fs : List Frame} → LiveTrees N n ws free k Fs → (e : ℕ) → 0 < count e (roots_of Fs) → e < N
    -- spawn, return and write
    pub live_laws : (N n : ℕ) → N ≤ 16384 → 0 < n → TreeLaws layout N n (LiveTrees N n)
    pub good_laws : (N n : ℕ) → N ≤ 16384 → 0 < n → TreeLaws layout N n (GoodTrees N n)
    -- what they leave
    pub spawn_beyond : (N n : ℕ) → N ≤ 16384 → 0 < n → (ws : List ℕ) (free k : ℕ) (F : Frame) (Fs : List Frame) → length Fs < max_places → LiveTrees N n ws free k (F ∷ Fs) → Beyond N ws (layout.retain ws F.0)
    pub return_beyond : (N n : ℕ) → N ≤ 16384 → 0 < n → (ws : List ℕ) (free k : ℕ) (F : Frame) (Fs : List Frame) → LiveTrees N n ws free k (F ∷ Fs) → Beyond N ws (layout.release N (height n) ws free k F.0).0
    pub write_beyond : (N n : ℕ) → N ≤ 16384 → 0 < n → (ws : List ℕ) (free k root : ℕ) (h : History) (Fs : List Frame) (x v : ℕ) → length Fs < max_places → x < n → layout.rest (height n) ws root x ≤ k → LiveTrees N n ws free k ((root, h) ∷ Fs)
        → Beyond N ws (layout.write (height n) ws free k root x v).0
    -- a write takes as many nodes as the rest of its path has
    pub write_takes : (N n : ℕ) → N ≤ 16384 → 0 < n → (ws : List ℕ) (free k root : ℕ) (h : History) (Fs : List Frame) (x v : ℕ) → length Fs < max_places → x < n → layout.rest (height n) ws root x ≤ k → LiveTrees N n ws free k ((root, h) ∷ Fs)
        → (layout.write (height n) ws free k root x v).2 + layout.rest (height n) ws root x ≡ k
    -- the sentences on trees hold if and only if the pool is a live one; the order of the roots does not matter
    pub pool_live : (n N : ℕ) → N ≤ 16384 → 0 < n → (ws : List ℕ) (first : ℕ) (rs : List ℕ) (Fs : List Frame) → ((i : ℕ) → count i rs ≡ count i (roots_of Fs)) → layout.words * N ≤ length ws → pool_sound layout n N ws first rs ≡ true
        → LiveTrees N n ws first (length (layout.free_nodes N ws first)) Fs
    pub live_pool : (n N : ℕ) → N ≤ 16384 → 0 < n → (ws : List ℕ) (first : ℕ) (rs : List ℕ) (Fs : List Frame) → ((i : ℕ) → count i rs ≡ count i (roots_of Fs)) → (k : ℕ) → LiveTrees N n ws first k Fs
        → (pool_sound layout n N ws first rs ≡ true) × (length (layout.free_nodes N ws first) ≡ k)
    -- without a root every node is free, and stands once on the chain
    pub trees_all_free : (N n : ℕ) → N ≤ 16384 → 0 < n → (ws : List ℕ) (free k : ℕ) (Fs : List Frame) → LiveTrees N n ws free k Fs → roots_of Fs ≡ [] → (k ≡ N) × ((i : ℕ) → i < N → count i (layout.free_nodes N ws free) ≡ 1)
    -- the same nodes in another slice
    pub live_trees : (N n : ℕ) → N ≤ 16384 → Elsewhere N n (LiveTrees N n)
    pub good_trees : (N n : ℕ) → N ≤ 16384 → Elsewhere N n (GoodTrees N n)
    -- the start
    pub good_start : (N n : ℕ) → N ≤ 16384 → 0 < n → (ws vs : List ℕ) → tree_nodes n ≤ N → layout.words * N ≤ length ws → Started N n (GoodTrees N n) ws vs (layout.start ws n N vs)
    -- document 01: "its free nodes are the pool's less those in use"; and a write adds as many as the rest of its path has
    pub good_free : (N n : ℕ) → N ≤ 16384 → 0 < n → {ws : List ℕ} {free k : ℕ} {Fs : List Frame} → GoodTrees N n ws free k Fs → nodes_in_use n (histories_of Fs) + k ≡ N
    pub good_rest : (N n : ℕ) → N ≤ 16384 → 0 < n → {ws : List ℕ} {free k root : ℕ} {h : History} {Fs : List Frame} (e : Event) → e.splitter < n → Fresh e.mark ((root, h) ∷ Fs) → GoodTrees N n ws free k ((root, h) ∷ Fs)
        → (nodes_in_use n ((e ∷ h) ∷ histories_of Fs) ≡ nodes_in_use n (h ∷ histories_of Fs) + layout.rest (height n) ws root e.splitter)
        × ((k < layout.rest (height n) ws root e.splitter) ↔ (N < nodes_in_use n ((e ∷ h) ∷ histories_of Fs)))
    -- of any pool: the number of words stays, and words stay words
    pub length-release : (N l : ℕ) (ws : List ℕ) (free k i : ℕ) → length (layout.release N l ws free k i).0 ≡ length ws
    pub words-retain : (ws : List ℕ) (i : ℕ) → Words ws → Words (layout.retain ws i)
    pub words-release : (N l : ℕ) (ws : List ℕ) (free k i : ℕ) → Words ws → free < 4294967296 → i < 4294967296 → PoolWords (layout.release N l ws free k i)
    pub words-write : (l : ℕ) (ws : List ℕ) (free k root x v : ℕ) → Words ws → free < 4294967296 → root < 4294967296 → v < 4294967296 → WrittenWords (layout.write l ws free k root x v)
    pub words-start : (ws : List ℕ) (n N : ℕ) (vs : List ℕ) → Words ws → Words vs → Words (layout.start ws n N vs).0 × ((layout.start ws n N vs).1 < 4294967296)
