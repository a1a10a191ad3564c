-- The pool of a run from a start, and what each operation makes of it: what the engine cites. In F ∷ Fs the frame that acts
-- stands in front.
use Rattle.std.specs.Prelude.{◌≡◌, refl, ◌≢◌, ◌↔◌, ℕ, ◌+◌, ◌-◌, ◌*◌, ◌≤◌, ◌<◌, length, get_or, drop}
use Rattle.std.proofs.Common.{ap, ◌∙◌, arith}
use mathlib.Core.List.Memᴰ.{head as here}
use mathlib.Core.List.Memᴰ.{not-nil as not-in-nil}
use mathlib.Core.List.{Memᴰ as In}
use mathlib.Core.List.Permᴰ
use mathlib.Core.List.{List, [], ◌∷◌, Permᴰ}
use Rattle.std.proofs.lemmas.List.{length-map}
use Rattle.words.specs.Basics.{none, δ, count}
use Rattle.words.specs.Counting.{count_cons}
use Rattle.words.specs.Lists.{In-perm}
use Rattle.sizes.specs.Heights.{height_covers}
use Rattle.sizes.specs.Numbering.{nodes-tree}
use Rattle.sizes.specs.Sizes.{height, tree_nodes}
use Rattle.model.specs.History.{Event, History, nodes_in_use}
use Rattle.pool.specs.Pool.{read_at, retain, release, write, rest, init_pool}
use Rattle.pool.specs.Theory.InUse.{histories_of, free_nodes_lem}
use Rattle.pool.specs.Theory.Init.{init_start, init_length, init_beyond}
use Rattle.pool.specs.Theory.Operations.{Live, live_perm, live-spawn, live_return}
use Rattle.pool.specs.Theory.Reached.{all_free}
use Rattle.pool.specs.Theory.Rest.{rest-counted}
use Rattle.pool.specs.Theory.Sharing.{Frame, roots_of, root_of_lem, Fresh, Share, share_spawn, share_return, share_write}
use Rattle.pool.specs.Theory.Soundness.{live-sound}
use Rattle.pool.specs.Theory.Start.{start_level, start_size, start_free, start_free_lem, start-live, start_read, start_share}
use Rattle.pool.specs.Theory.Trees.{PoolSound}
use Rattle.pool.specs.Theory.Write.{live-write}

-- ws are the words of a pool of N nodes for n splitters, free its first free node, k how many are free; the live frames are Fs
pub record Good (N n : ℕ) (ws : List ℕ) (free k : ℕ) (Fs : List Frame) : Type 0 where
  pub level : ℕ → ℕ
  pub size : ℕ → ℕ
  pub fs : List ℕ
  pub counted : k ≡ length fs
  pub live : Live N (height n) n level size ws free fs (roots_of Fs)
  pub share : Share N (height n) n level ws Fs

-- after an operation the live frames are Fs; those of Ks read what they read before, and the words beyond are untouched
pub record After (N n : ℕ) (ws : List ℕ) (Ks Fs : List Frame) (ws' : List ℕ) (free' k' : ℕ) : Type 0 where
  pub good : Good N n ws' free' k' Fs
  pub kept : (F : Frame) → In F Ks → (y : ℕ) → y < n → read_at (height n) ws' F.0 y ≡ read_at (height n) ws F.0 y
  pub len : length ws' ≡ length ws
  pub rest : drop (4 * N) ws' ≡ drop (4 * N) ws

-- how often a root is held does not depend on the order of the frames
pub count_roots : {Fs Gs : List Frame} → Permᴰ Fs Gs → (i : ℕ) → count i (roots_of Fs) ≡ count i (roots_of Gs)
count_roots Permᴰ.nil i = refl
count_roots (Permᴰ.cons {a = F} {b = G} {l₁ = Fs} {l₂ = Gs} e p) i =
    omega (arith, count_cons i F.0 (roots_of Fs), count_cons i G.0 (roots_of Gs), count_roots p i, ap (λ (q : Frame). δ i q.0) e)
count_roots (Permᴰ.swap {a = F} {b = G} {a' = F'} {b' = G'} {l = Fs} e d) i =
    omega (
      arith,
      count_cons i F.0 (G.0 ∷ roots_of Fs),
      count_cons i G.0 (roots_of Fs),
      count_cons i F'.0 (G'.0 ∷ roots_of Fs),
      count_cons i G'.0 (roots_of Fs),
      ap (λ (q : Frame). δ i q.0) e,
      ap (λ (q : Frame). δ i q.0) d,
    )
count_roots (Permᴰ.trans p q) i = count_roots p i ∙ count_roots q i

module _ (N n : ℕ) (most : N ≤ 16384) (some : 0 < n) where
  small : N ≤ none
  small = omega arith

  -- document 01: "its free nodes are the pool's less those in use"
  pub good_free : {ws : List ℕ} {free k : ℕ} {Fs : List Frame} → Good N n ws free k Fs → nodes_in_use n (histories_of Fs) + k ≡ N
  good_free {Fs = Fs} G = omega (arith, free_nodes_lem N n small {Fs = Fs} G.live G.share, G.counted)

  -- the pool part of document 01's soundness
  pub good_sound : {ws : List ℕ} {free k : ℕ} {Fs : List Frame} (G : Good N n ws free k Fs) → PoolSound N (height n) n ws free G.fs (roots_of Fs)
  good_sound G = live-sound N (height n) n small some (height_covers n) G.live

  -- with no live frame left all nodes are free: "all recorded nodes lie once on the free chain"
  pub good_end : {ws : List ℕ} {free k : ℕ} (G : Good N n ws free k []) → (k ≡ N) × ((i : ℕ) → i < N → count i G.fs ≡ 1)
  good_end G = (let a = all_free N (height n) n small (height_covers n) G.live refl in (G.counted ∙ a.0, a.1))

  -- the order of the frames does not matter
  pub good_perm : {ws : List ℕ} {free k : ℕ} {Fs Gs : List Frame} → Permᴰ Fs Gs → Good N n ws free k Fs → Good N n ws free k Gs
  good_perm {Fs = Fs} {Gs} p G = record {
    level = G.level;
    size = G.size;
    fs = G.fs;
    counted = G.counted;
    live = live_perm N (height n) n small (height_covers n) (roots_of Gs) (count_roots p) G.live;
    share = record { stamp = G.share.stamp; group = G.share.group; stamped = λ F m. G.share.stamped F (In-perm (Permᴰ.symm p) m); injective = G.share.injective };
  }

  -- ---- the start: Main, with no history

  pub good_start : (ws vs : List ℕ) → tree_nodes n ≤ N → 4 * N ≤ length ws
      → After N n ws [] ((0, []) ∷ []) (init_pool ws n N vs).0 (init_pool ws n N vs).1 (N - tree_nodes n)
      × ((y : ℕ) → y < n → read_at (height n) (init_pool ws n N vs).0 0 y ≡ get_or vs y 0)
  good_start ws vs fits room =
      let H = height n in
      let S = init_start ws n N vs fits most room in
      let ws' = (init_pool ws n N vs).0 in
      let f' = (init_pool ws n N vs).1 in
      let vals : ℕ → ℕ = (λ y. get_or vs y 0) in (
        record {
          good = record {
            level = start_level N H n small some (height_covers n) vals ws' f' S;
            size = start_size N H n small some (height_covers n) vals ws' f' S;
            fs = start_free N H n small some (height_covers n) vals ws' f' S;
            counted = omega (arith, start_free_lem N H n small some (height_covers n) vals ws' f' S, nodes-tree n);
            live = start-live N H n small some (height_covers n) vals ws' f' S;
            share = start_share N H n small some (height_covers n) vals ws' f' S;
          };
          kept = λ F m. absurd (not-in-nil m);
          len = init_length ws n N vs fits most room;
          rest = init_beyond ws n N vs fits most room;
        },
        start_read N H n small some (height_covers n) vals ws' f' S,
      )

  -- ---- spawn: the acting frame's root is retained

  pub good_spawn : (ws : List ℕ) (free k : ℕ) (F : Frame) (Fs : List Frame) → length Fs ≤ 256 → Good N n ws free k (F ∷ Fs) → After N n ws (F ∷ Fs) (F ∷ F ∷ Fs) (retain ws F.0) free k
  good_spawn ws free k F Fs few G =
      let P = live-spawn N (height n) n small (height_covers n) G.live (omega (arith, length-map (F ∷ Fs) (λ (K : Frame). K.0))) F.0 (root_of_lem F (F ∷ Fs) (here refl)) in
      record {
        good = record { level = G.level; size = G.size; fs = G.fs; counted = G.counted; live = P.live; share = share_spawn N (height n) n small (height_covers n) F (here refl) G.live G.share P };
        kept = λ K m. (P.same K.0 (root_of_lem K (F ∷ Fs) m)).reads;
        len = P.len;
        rest = P.rest;
      }

  -- ---- return: its root is released

  pub good_return : (ws : List ℕ) (free k : ℕ) (F : Frame) (Fs : List Frame) → Good N n ws free k (F ∷ Fs)
      → let p : List ℕ × ℕ × ℕ = release (height n) ws free k F.0 in After N n ws Fs Fs p.0 p.1 p.2
  good_return ws free k F Fs G =
      let P = live_return N (height n) n small (height_covers n) k F.0 (roots_of Fs) G.counted G.live in
      record {
        good = record { level = G.level; size = G.size; fs = P.fs'; counted = P.counted; live = P.live; share = share_return N (height n) n small (height_covers n) F Fs G.share P };
        kept = λ K m. (P.same K.0 (root_of_lem K Fs m)).reads;
        len = P.len;
        rest = P.rest;
      }

  -- ---- write: a fresh mark, and as many free nodes as the rest of the path has that is new

  pub good_write : (ws : List ℕ) (free k root : ℕ) (h : History) (Fs : List Frame) (e : Event) (v : ℕ) → length Fs ≤ 256 → e.splitter < n → rest (height n) ws root e.splitter ≤ k → Fresh e.mark ((root, h) ∷ Fs)
      → Good N n ws free k ((root, h) ∷ Fs)
      → let p : List ℕ × ℕ × ℕ × ℕ = write (height n) ws free k root e.splitter v in
      After N n ws Fs ((p.3, e ∷ h) ∷ Fs) p.0 p.1 p.2
      × (read_at (height n) p.0 p.3 e.splitter ≡ v)
      × ((y : ℕ) → y < n → y ≢ e.splitter → read_at (height n) p.0 p.3 y ≡ read_at (height n) ws root y)
  good_write ws free k root h Fs e v few bx enough fresh G =
      let W = (live-write N (height n) n small (height_covers n) G.level G.size ws free k G.fs (roots_of Fs) root e.splitter v G.live bx G.counted enough
      (omega (arith, length-map Fs (λ (K : Frame). K.0)))).0 in (
        record {
          good = record { level = W.level'; size = W.size'; fs = W.fs'; counted = W.counted; live = W.live; share = share_write N (height n) n small (height_covers n) root h Fs e fresh G.live G.share bx W };
          kept = λ K m. (W.same K.0 (root_of_lem K Fs m)).reads;
          len = W.len;
          rest = W.beyond;
        },
        W.new_read,
        W.old_reads,
      )

  -- document 02, R-2: "Nodes in use after a write are as before, so the plain machine's count goes on being the measure: it gives 16
  -- when the write would bring that count above the pool's nodes."
  pub good_rest : {ws : List ℕ} {free k root : ℕ} {h : History} {Fs : List Frame} (e : Event) → e.splitter < n → Fresh e.mark ((root, h) ∷ Fs) → Good N n ws free k ((root, h) ∷ Fs)
      → (nodes_in_use n ((e ∷ h) ∷ histories_of Fs) ≡ nodes_in_use n (h ∷ histories_of Fs) + rest (height n) ws root e.splitter)
      × ((k < rest (height n) ws root e.splitter) ↔ (N < nodes_in_use n ((e ∷ h) ∷ histories_of Fs)))
  good_rest {ws} {root = root} {h} {Fs} e bx fresh G =
      let r = rest-counted N n small root h Fs e bx G.live G.share fresh in
      let f = good_free {Fs = (root, h) ∷ Fs} G in
      (r, ((λ q. omega (arith, r, f)), (λ q. omega (arith, r, f))))
