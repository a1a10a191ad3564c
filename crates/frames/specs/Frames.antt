-- The frame table: a record at each place, and the list of free places. Definitions only.
use Rattle.std.specs.Prelude.{cond, List, [], ◌∷◌, ◌++◌, ℕ, zero, suc, ◌-◌, ◌<◌, length, get_or, set, eqb}
use Rattle.words.specs.Basics.{none, plus}
use Rattle.reducers.specs.declared.View.{View}
use Rattle.reducers.specs.Reducers.{identity_view, view_words, zero_view}
use Rattle.reducers.specs.Law.{ViewWord}
use Rattle.frames.specs.declared.Frame.{Frame}

-- a record's words; document 02: frame records "of live, parent (next free place if not live), depth, outstanding, suspended and root"; R-3: "Frame records
-- gain a word for it, last: 1 on a frame waiting so", that is, returning; R-5: "frame records gain, last, the four view words and the next younger live
-- sibling or none"
abbrev pub words_of : Frame → List ℕ
words_of f = f.live ∷ f.parent ∷ f.depth ∷ f.outstanding ∷ f.suspended ∷ f.root ∷ f.returning ∷ (view_words f.view ++ f.younger ∷ [])

-- the record of these words
abbrev pub record_in : List ℕ → Frame
record_in ks =
    record {
      live = get_or ks 0 0;
      parent = get_or ks 1 0;
      depth = get_or ks 2 0;
      outstanding = get_or ks 3 0;
      suspended = get_or ks 4 0;
      root = get_or ks 5 0;
      returning = get_or ks 6 0;
      view = record { sum = record { value = get_or ks 7 0 }; min = record { value = get_or ks 8 0 }; affine = record { multiplier = get_or ks 9 0; addend = get_or ks 10 0 } };
      younger = get_or ks 11 0;
    }

-- a free place: "all but the link to the next being zero"
abbrev pub free_record : ℕ → Frame
free_record next = record { live = 0; parent = next; depth = 0; outstanding = 0; suspended = 0; root = 0; returning = 0; view = zero_view; younger = 0 }

-- R-6: "a slice of frame records": the record at place p; past the table there are zeros
unfoldable pub frame_at : List Frame → ℕ → Frame
frame_at fs p = get_or fs p (free_record 0)

unfoldable pub set_frame : List Frame → ℕ → Frame → List Frame
set_frame fs p f = set fs p f

-- ---- single records

-- a record with one part changed: its number of live children, suspended or not, its tree, returning or not, its view, its next younger live sibling
abbrev pub with_outstanding : Frame → ℕ → Frame
with_outstanding f n = record f { outstanding = n }

abbrev pub with_suspended : Frame → ℕ → Frame
with_suspended f s = record f { suspended = s }

abbrev pub with_root : Frame → ℕ → Frame
with_root f r = record f { root = r }

abbrev pub with_returning : Frame → ℕ → Frame
with_returning f b = record f { returning = b }

abbrev pub with_view : Frame → View → Frame
with_view f w = record f { view = w }

abbrev pub with_younger : Frame → ℕ → Frame
with_younger f y = record f { younger = y }

-- R-3: "suspends the frame as returning"
abbrev pub as_returning : Frame → Frame
as_returning f = with_returning (with_suspended f 1) 1

-- one live child more
abbrev pub with_child : Frame → Frame
with_child f = with_outstanding f (plus f.outstanding 1)

-- one live child less
abbrev pub without_child : Frame → Frame
without_child f = with_outstanding f (f.outstanding - 1)

-- R-5: "the continuation begins with the identity": a frame after its spawn
abbrev pub after_spawn : Frame → Frame
after_spawn f = with_view (with_child f) identity_view

-- a spawned child of the frame f at place p: "child of the worker's bottom frame and one deeper"; R-5: "the child inherits", and it is the youngest
abbrev pub child_of : Frame → ℕ → Frame
child_of f p = record { live = 1; parent = p; depth = plus f.depth 1; outstanding = 0; suspended = 0; root = f.root; returning = 0; view = f.view; younger = none }

-- Main, with the tree of this root; R-5: "Main begins with the identities."
abbrev pub main_frame : ℕ → Frame
main_frame r = record { live = 1; parent = none; depth = 0; outstanding = 0; suspended = 0; root = r; returning = 0; view = identity_view; younger = none }

-- ---- the start

-- c free places from place p on, in rising order
unfoldable pub init_places : ℕ → List Frame → ℕ → List Frame
init_places zero fs p = fs
init_places (suc c) fs p = init_places c (set_frame fs p (free_record (cond (eqb c 0) none (plus p 1)))) (plus p 1)

-- "Frame places are taken and freed the same way, Main in place 0": Main, whose tree's root is node 0, the other places are free
unfoldable pub init_frames : List Frame → List Frame
init_frames fs = init_places (length fs - 1) (set_frame fs 0 (main_frame 0)) 1

-- the first free place of a table of n places then
abbrev pub first_free : ℕ → ℕ
first_free n = cond (eqb n 1) none 1

-- "Words are 32-bit unsigned": a record of words, and a table of such records
pub record FrameWords (f : Frame) : Type 0 where
  pub live : f.live < 4294967296
  pub parent : f.parent < 4294967296
  pub depth : f.depth < 4294967296
  pub outstanding : f.outstanding < 4294967296
  pub suspended : f.suspended < 4294967296
  pub root : f.root < 4294967296
  pub returning : f.returning < 4294967296
  pub view : ViewWord f.view
  pub younger : f.younger < 4294967296

abbrev pub RecordWords : List Frame → Type 0
RecordWords fs = (p : ℕ) → FrameWords (frame_at fs p)
