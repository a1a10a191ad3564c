-- The relation between a plain machine and the engine's words and records: where each live frame stands, what its record holds, and what its
-- tree reads. It is stated over a predicate `Trees` on the pool, so that it serves both sound states from anywhere and runs from
-- a start.
use Rattle.std.specs.Prelude.{◌≡◌, ◌≢◌, Bool, cond, List, [], ◌∷◌, map, ℕ, ◌+◌, ◌≤◌, ◌<◌, length, get_or}
use mathlib.Core.List.{Memᴰ as In, Permᴰ}
use Rattle.words.specs.Basics.{none, count, joined}
use Rattle.sizes.specs.Sizes.{height, tree_nodes}
use Rattle.frames.specs.declared.Frame.{Frame as FrameRecord}
use Rattle.frames.specs.Widths.{max_places}
use Rattle.frames.specs.Deques.{deque_list}
use Rattle.frames.specs.Frames.{frame_at, free_record}
use Rattle.frames.specs.Siblings.{younger, Children}
use Rattle.soundness.specs.Numbers.{total_count}
use Rattle.frames.proofs.Theory.Tables.{Formed}
use Rattle.model.specs.History.{Mark, Event, History}
use Rattle.model.specs.Machine.{Name, Frame, Machine, live, deque, is_child}
use Rattle.model.specs.Machine.{live as lives}
use Rattle.semantics.specs.Core.{Core, table_of}
use Rattle.soundness.specs.Layout.{Layout}

-- ---- the pool of live frames

-- of the pool's words, the first free node, the number of free nodes, and the live frames' roots with their histories
abbrev pub Trees : Type 1
Trees = List ℕ → ℕ → ℕ → List (ℕ × History) → Type 0

module _ (layout : Layout) where
  -- these frames read what they read before
  abbrev pub Kept : ℕ → ℕ → List ℕ → List ℕ → List (ℕ × History) → Type 0
  Kept h n ws ws' Fs = (F : ℕ × History) → In F Fs → (y : ℕ) → y < n → layout.read h ws' F.0 y ≡ layout.read h ws F.0 y

-- no event of the frames has the mark m
abbrev pub Fresh : Mark → List (ℕ × History) → Type 0
Fresh m Fs = (F : ℕ × History) → In F Fs → (e : Event) → In e F.1 → e.mark ≢ m

abbrev pub event : ℕ → Mark → Event
event x m = record { splitter = x; mark = m }

module _ (layout : Layout) where
  -- what spawn, return and write do to it, for N nodes and n splitters
  pub record TreeLaws (N n : ℕ) (P : Trees) : Type 0 where
    pub perm : (ws : List ℕ) (free k : ℕ) (Fs Fs' : List (ℕ × History)) → Permᴰ Fs Fs' → P ws free k Fs → P ws free k Fs'
    pub spawn : (ws : List ℕ) (free k : ℕ) (F : ℕ × History) (Fs : List (ℕ × History)) → length Fs < max_places → P ws free k (F ∷ Fs)
        → P (layout.retain ws F.0) free k (F ∷ F ∷ Fs) × Kept layout (height n) n ws (layout.retain ws F.0) (F ∷ Fs)
    pub return : (ws : List ℕ) (free k : ℕ) (F : ℕ × History) (Fs : List (ℕ × History)) → P ws free k (F ∷ Fs)
        → P (layout.release N (height n) ws free k F.0).0 (layout.release N (height n) ws free k F.0).1 (layout.release N (height n) ws free k F.0).2 Fs
        × Kept layout (height n) n ws (layout.release N (height n) ws free k F.0).0 Fs
    pub write : (ws : List ℕ) (free k root : ℕ) (h : History) (Fs : List (ℕ × History)) (x v : ℕ) (m : Mark) → length Fs < max_places → x < n → layout.rest (height n) ws root x ≤ k → m ≢ []
        → Fresh m ((root, h) ∷ Fs) → P ws free k ((root, h) ∷ Fs)
        → P (layout.write (height n) ws free k root x v).0 (layout.write (height n) ws free k root x v).1 (layout.write (height n) ws free k root x v).2 (((layout.write (height n) ws free k root x v).3, event x m ∷ h) ∷ Fs)
        × Kept layout (height n) n ws (layout.write (height n) ws free k root x v).0 Fs
        × (layout.read (height n) (layout.write (height n) ws free k root x v).0 (layout.write (height n) ws free k root x v).3 x ≡ v)
        × ((y : ℕ) → y < n → y ≢ x → layout.read (height n) (layout.write (height n) ws free k root x v).0 (layout.write (height n) ws free k root x v).3 y ≡ layout.read (height n) ws root y)

-- ---- frames and their places

-- Main has no parent; another frame's parent stands where its name says
abbrev pub parent_place : (Name → ℕ) → Name → ℕ
parent_place at [] = none
parent_place at (k ∷ p) = at p

-- how many of the frames are children of p
abbrev pub child_count : Name → List Frame → ℕ
child_count p [] = 0
child_count p (f ∷ fs) = cond (is_child p f.name) 1 0 + child_count p fs

abbrev pub places_of : (Name → ℕ) → List Frame → List ℕ
places_of at fs = map (λ f. at f.name) fs

abbrev pub root_of : List FrameRecord → (Name → ℕ) → Frame → ℕ
root_of fs at f = (frame_at fs (at f.name)).root

-- the frames' roots with their histories
abbrev pub roots_of : List FrameRecord → (Name → ℕ) → List Frame → List (ℕ × History)
roots_of fs at L = map (λ f. (root_of fs at f, f.history)) L

-- 1 if so, else 0
abbrev pub bit : Bool → ℕ
bit b = cond b 1 0

-- the record of the frame f, one of the live frames L: suspended (s is 1) or not (0)
pub record Recorded (fs : List FrameRecord) (at : Name → ℕ) (L : List Frame) (s : ℕ) (f : Frame) : Type 0 where
  pub inside : at f.name < length fs
  pub live : (frame_at fs (at f.name)).live ≡ 1
  pub parent : (frame_at fs (at f.name)).parent ≡ parent_place at f.name
  pub depth : (frame_at fs (at f.name)).depth ≡ length f.name
  pub outstanding : (frame_at fs (at f.name)).outstanding ≡ child_count f.name L
  pub suspended : (frame_at fs (at f.name)).suspended ≡ s
  pub returning : (frame_at fs (at f.name)).returning ≡ bit f.returning

-- the totals: four words, "zero while Main lives"
pub record TotalsKept (ts : List ℕ) (L : List Frame) : Type 0 where
  pub long : length ts ≡ total_count
  pub zero : (f : Frame) → In f L → f.name ≡ [] → (i : ℕ) → i < total_count → get_or ts i 0 ≡ 0

-- the numbers that no step changes
pub record SameNumbers (M : Machine) (c : Core) : Type 0 where
  pub workers : c.head.numbers.workers ≡ length M.deques
  pub workers_positive : 1 ≤ length M.deques
  pub workers_le : length M.deques ≤ 8
  pub splitters : c.head.numbers.splitters ≡ M.splitters
  pub splitters_positive : 1 ≤ M.splitters
  pub splitters_le : M.splitters ≤ 256
  pub height_is : c.head.height ≡ height M.splitters
  pub enough : tree_nodes M.splitters ≤ c.head.numbers.nodes
  pub nodes_le : c.head.numbers.nodes ≤ 16384
  -- R-6: the table's length, which is recorded
  pub places : c.head.numbers.places ≡ M.places
  pub places_positive : 1 ≤ M.places
  pub table : M.places ≡ length c.frames

module _ (layout : Layout) where
  -- `at` gives each live frame's place, gs are the free places
  pub record Relates (P : Trees) (M : Machine) (c : Core) : Type 0 where
    pub at : Name → ℕ
    pub gs : List ℕ
    pub numbers : SameNumbers M c
    pub formed : Formed (table_of c) gs
    pub deques : (w : ℕ) → w < 8 → deque_list c.deques w ≡ places_of at (deque M w)
    pub running : (f : Frame) → In f (joined M.deques) → Recorded c.frames at (live M) 0 f
    pub waiting : (f : Frame) → In f M.suspended → Recorded c.frames at (live M) 1 f
    -- each place is free or some live frame's, and only one's
    pub once : (p : ℕ) → p < length c.frames → count p gs + count p (places_of at (live M)) ≡ 1
    pub vacant : (p : ℕ) → p < length c.frames → 0 < count p gs → (q : ℕ) × (frame_at c.frames p ≡ free_record q)
    pub totals : TotalsKept c.totals (live M)
    pub trees : P c.pool c.head.numbers.free_node c.head.free_count (roots_of c.frames at (live M))
    pub values : (f : Frame) → In f (live M) → (x : ℕ) → x < M.splitters → layout.read (height M.splitters) c.pool (root_of c.frames at f) x ≡ get_or f.values x 0

-- ---- beside it: the links between siblings

-- R-5: "these links chain the live children of each frame, each once, Main's being none"
pub record Links (fs : List FrameRecord) (at : Name → ℕ) (L : List Frame) : Type 0 where
  pub children : (f : Frame) → In f L → (cs : List ℕ) × Children fs (at f.name) cs
  pub main-link : (f : Frame) → In f L → f.name ≡ [] → younger fs (at f.name) ≡ none

module _ (layout : Layout) where
  -- R-5: from c to c' no frame begins, ends or folds: the frames keep their places, links and views
  pub record Keeps {P : Trees} {M M' : Machine} {c c' : Core} (r : Relates layout P M c) (r' : Relates layout P M' c') : Type 0 where
    pub same_length : length c'.frames ≡ length c.frames
    pub places : (n : Name) → r'.at n ≡ r.at n
    pub live : (p : ℕ) → (frame_at c'.frames p).live ≡ (frame_at c.frames p).live
    pub parent : (p : ℕ) → (frame_at c'.frames p).parent ≡ (frame_at c.frames p).parent
    pub view : (p : ℕ) → (frame_at c'.frames p).view ≡ (frame_at c.frames p).view
    pub link : (p : ℕ) → younger c'.frames p ≡ younger c.frames p
    -- the same names
    pub from : (f : Frame) → In f (lives M') → (g : Frame) × In g (lives M) × (g.name ≡ f.name)
    pub to : (f : Frame) → In f (lives M) → (g : Frame) × In g (lives M') × (g.name ≡ f.name)
    pub totals : c'.totals ≡ c.totals

  -- R-7: from c to c' the frames that lived before keep their places, and one that is new stands where the first free place was
  pub record SamePlaces {P P' : Trees} {M M' : Machine} {c c' : Core} (r : Relates layout P M c) (r' : Relates layout P' M' c') : Type 0 where
    pub kept : (f : Frame) → In f (lives M) → r'.at f.name ≡ r.at f.name
    pub fresh : (f : Frame) → In f (lives M') → ((g : Frame) → In g (lives M) → g.name ≢ f.name) → r'.at f.name ≡ c.head.numbers.free_place
