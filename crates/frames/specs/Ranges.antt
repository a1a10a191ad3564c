-- What the functions that index without a test know of the words and the frame table that are lent to them. Definitions only.
use Rattle.std.specs.Prelude.{◌≡◌, ◌≢◌, ◌⊎◌, List, ℕ, ◌≤◌, ◌<◌, length}
use Rattle.words.specs.Basics.{none}
use Rattle.frames.specs.declared.Frame.{Frame}
use Rattle.frames.specs.Widths.{max_workers, deque_places, deque_words}
use Rattle.frames.specs.Deques.{size, bottom}
use Rattle.frames.specs.Frames.{frame_at}

-- worker w has n frames and executes the one at place p, whose record is f
pub record Acts (ds : List ℕ) (fs : List Frame) (w n p : ℕ) (f : Frame) : Type 0 where
  pub long_deques : length ds ≡ deque_words
  pub worker : w < max_workers
  pub has : n ≡ size ds w
  pub some : 0 < n
  pub most : n ≤ deque_places
  pub acting : p ≡ bottom ds w
  pub within : p < length fs
  pub is : f ≡ frame_at fs p

-- in the table fs: the frame f at place p is Main, of depth 0, and has no parent, or its parent is at another place
abbrev pub ParentOf : List Frame → ℕ → Frame → Type 0
ParentOf fs p f = ((0 < f.depth) × (f.parent < length fs) × (f.parent ≢ p)) ⊎ ((f.depth ≡ 0) × (f.parent ≡ none))

-- its parent, if it has one, has a live child
abbrev pub ParentCounts : List Frame → Frame → Type 0
ParentCounts fs f = f.parent < length fs → 0 < (frame_at fs f.parent).outstanding

-- the frame at place p, whose parent is at place q, can end
pub record EndsIn (fs : List Frame) (p q : ℕ) : Type 0 where
  pub within : p < length fs
  pub up : q ≡ (frame_at fs p).parent
  pub parent : ParentOf fs p (frame_at fs p)
  pub counts : ParentCounts fs (frame_at fs p)
