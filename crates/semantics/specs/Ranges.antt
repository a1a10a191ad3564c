-- What the functions below the entries ask of the core: that it is sound, and the ranges that soundness gives to code which indexes
-- without a test. The entries ask nothing: the check shows it. Definitions only.
use Rattle.std.specs.Prelude.{◌≡◌, ◌≢◌, ◌⊎◌, true, ℕ, zero, suc, ◌*◌, ◌≤◌, ◌<◌, length}
use Rattle.words.specs.Basics.{none}
use Rattle.sizes.specs.Sizes.{height}
use Rattle.pool.specs.Links.{Link}
use Rattle.packed.specs.Pool.{first_shared, rest}
use Rattle.packed.specs.Links.{PathIn, WriteIn}
use Rattle.frames.specs.Widths.{max_workers, max_places, deque_places, deque_words}
use Rattle.frames.specs.Deques.{size, place, bottom}
use Rattle.frames.specs.Frames.{frame_at}
use Rattle.frames.specs.Steps.{ends_too}
use Rattle.frames.specs.Ranges.{ParentOf, ParentCounts, EndsIn}
use Rattle.soundness.specs.Numbers.{total_count}
use Rattle.soundness.specs.Layout.{Layout, two_words}
use Rattle.soundness.specs.Soundness.{sound, count_of_free}
use Rattle.semantics.specs.Core.{Core, acting_in, popped, end_at}

-- a sound core: what every step keeps
pub record Kept (L : Layout) (c : Core) : Type 0 where
  pub is_sound_lem : sound L c.head.numbers c.totals c.deques c.frames c.pool ≡ true
  pub counted : c.head.free_count ≡ count_of_free L c.head.numbers c.pool
  pub height_is : c.head.height ≡ height c.head.numbers.splitters
  pub long_totals : length c.totals ≡ total_count
  pub long_deques : length c.deques ≡ deque_words

-- the frame at place p can end: its tree can be released; its parent, if it has one, is at another place and has a live child
pub record EndsAt (c : Core) (p : ℕ) : Type 0 where
  pub room : 2 * c.head.numbers.nodes ≤ length c.pool
  pub root : (frame_at c.frames p).root < c.head.numbers.nodes
  pub frame : EndsIn c.frames p (frame_at c.frames p).parent

-- a frame of depth d, whose parent is at place q, has ended; if the parent ends too, it can, and so on upward, in at most d ends
abbrev pub EndsUpward : ℕ → Core → ℕ → Type 0
EndsUpward zero c q = Unit
EndsUpward (suc d) c q =
    (q < length c.frames)
    × (ends_too (frame_at c.frames q) ≡ true → EndsAt c q × ((frame_at c.frames q).depth ≡ d) × EndsUpward d (end_at two_words c q) (frame_at c.frames q).parent)

-- what a sound core gives: each index of the step's code has its range
pub record Ready (c : Core) : Type 0 where
  pub workers_le : c.head.numbers.workers ≤ max_workers
  pub splitters_le : c.head.numbers.splitters ≤ 256
  pub low : c.head.height ≤ 8
  pub nodes_positive : 0 < c.head.numbers.nodes
  pub long_deques : length c.deques ≡ deque_words
  pub table : length c.frames ≡ c.head.numbers.places
  pub few_places : length c.frames ≤ max_places
  pub nodes_le : c.head.numbers.nodes ≤ 16384
  pub pool_room : 2 * c.head.numbers.nodes ≤ length c.pool
  pub free_node_lem : Link c.head.numbers.nodes c.head.numbers.free_node
  pub free_place_lem : (c.head.numbers.free_place < length c.frames) ⊎ (c.head.numbers.free_place ≡ none)
  pub sizes : (w : ℕ) → w < max_workers → size c.deques w ≤ deque_places
  pub absent : (w : ℕ) → w < max_workers → c.head.numbers.workers ≤ w → size c.deques w ≡ 0
  pub held : (w k : ℕ) → w < max_workers → k < size c.deques w → place c.deques w k < length c.frames
  -- a place is free, so fewer frames live than there are places
  pub room : (w : ℕ) → w < max_workers → c.head.numbers.free_place < length c.frames → size c.deques w < deque_places
  pub root : (w : ℕ) → w < max_workers → 0 < size c.deques w → (acting_in c w).root < c.head.numbers.nodes
  pub parent : (w : ℕ) → w < max_workers → 0 < size c.deques w → ParentOf c.frames (bottom c.deques w) (acting_in c w)
  pub counts : (w : ℕ) → w < max_workers → 0 < size c.deques w → ParentCounts c.frames (acting_in c w)
  -- a bottom frame that is not the top has its parent above it
  pub below : (w : ℕ) → w < max_workers → 1 < size c.deques w → (acting_in c w).parent ≢ none
  pub upward : (w : ℕ) → w < max_workers → 0 < size c.deques w → (acting_in c w).outstanding ≡ 0
      → EndsUpward (acting_in c w).depth (end_at two_words (popped c w) (bottom c.deques w)) (acting_in c w).parent
  pub path : (w x : ℕ) → w < max_workers → 0 < size c.deques w → x < c.head.numbers.splitters → PathIn c.head.numbers.nodes c.pool c.head.height (acting_in c w).root x
  pub writes : (w x : ℕ) → w < max_workers → 0 < size c.deques w → x < c.head.numbers.splitters → rest c.head.height c.pool (acting_in c w).root x ≤ c.head.free_count
      → WriteIn c.head.numbers.nodes c.head.height c.pool c.head.numbers.free_node x (first_shared c.head.height c.pool (acting_in c w).root (acting_in c w).root x)
