-- What a spawn, a return, a steal, a sync and a fold do to the deques and the frame table. Definitions only. That the step is not
-- refused is the caller's; what happens to the trees is the pool's.
use Rattle.std.specs.Prelude.{Bool, cond, not, ◌&&◌, List, ℕ, eqb}
use Rattle.words.specs.Basics.{none}
use Rattle.frames.specs.declared.Frame.{Frame}
use Rattle.frames.specs.declared.Returned.{Returned}
use Rattle.frames.specs.declared.Returned.TheVariants.{Continued, Idle, Resumed, Finished, Waiting}
use Rattle.frames.specs.declared.Synced.{Synced}
use Rattle.frames.specs.declared.Synced.TheVariants.{Passed, Suspended}
use Rattle.reducers.specs.Reducers.{fold_view}
use Rattle.frames.specs.Frames.{frame_at, set_frame, after_spawn, child_of, without_child, with_suspended, with_view, free_record}
use Rattle.frames.specs.Siblings.{relink, only_child, next_after, join_at}
use Rattle.frames.specs.Deques.{bottom, top, push, pop, drop_top}

-- the deques, the frame table and the first free place
pub record Table : Type 0 where
  pub deques : List ℕ
  pub frames : List Frame
  pub free_place : ℕ

-- the frame that worker w executes
abbrev pub acting : Table → ℕ → Frame
acting t w = frame_at t.frames (bottom t.deques w)

-- ---- spawn: "a new frame, child of the worker's bottom frame and one deeper, goes to the bottom of the same deque"

-- its other live children, if it has any: the youngest of them names the new one, at place g, as its next younger sibling
abbrev pub link_child : List Frame → ℕ → ℕ → List Frame
link_child fs p g = cond (eqb (frame_at fs p).outstanding 0) fs (relink fs p none g)

-- the child in the first free place
unfoldable pub add_child : Table → ℕ → Table
add_child t w =
    let p : ℕ = bottom t.deques w in
    let f : Frame = frame_at t.frames p in
    record {
      deques = push t.deques w t.free_place;
      frames = set_frame (set_frame t.frames p (after_spawn f)) t.free_place (child_of f p);
      free_place = (frame_at t.frames t.free_place).parent;
    }

abbrev pub with_frames : Table → List Frame → Table
with_frames t fs = record { deques = t.deques; frames = fs; free_place = t.free_place }

unfoldable pub spawn : Table → ℕ → Table
spawn t w = add_child (with_frames t (link_child t.frames (bottom t.deques w) t.free_place)) w

-- ---- return: "the bottom frame ends"

-- worker w's bottom frame leaves its deque and waits, with the record f: "it is suspended, its worker goes idle"
abbrev pub suspend : Table → ℕ → Frame → Table
suspend t w f =
    record { deques = pop t.deques w; frames = set_frame t.frames (bottom t.deques w) f; free_place = t.free_place }

-- the frame at place p ends: its place is free again, "the last freed is the first taken", and its parent, if it has one, has a live
-- child less
unfoldable pub remove_frame : List Frame → ℕ → ℕ → List Frame
remove_frame fs free p =
    let q : ℕ = (frame_at fs p).parent in
    cond (eqb q none) (set_frame fs p (free_record free)) (set_frame (set_frame fs p (free_record free)) q (without_child (frame_at fs q)))

-- the frame at p has ended, and gs is the table without it: an elder sibling names the next younger one instead
abbrev pub unlink : List Frame → ℕ → List Frame → List Frame
unlink fs p gs = cond (only_child fs p) gs (relink gs (frame_at fs p).parent p (frame_at fs p).younger)

-- all of it; R-5: "the view of a frame that ends joins on the left of the next one's" (Main's becomes the totals: semantics)
unfoldable pub end_frame : List Frame → ℕ → ℕ → List Frame
end_frame fs free p =
    let gs : List Frame = remove_frame fs free p in
    cond (eqb (frame_at fs p).parent none) gs (join_at (unlink fs p gs) (next_after fs p) (frame_at fs p).view)

-- of the parent's record, already without the child that has ended: it "is suspended and has no live child left"
abbrev pub waits_no_more : Frame → Bool
waits_no_more f = eqb f.suspended 1 && eqb f.outstanding 0

-- R-3: "When its last child ends, it ends too"
abbrev pub ends_too : Frame → Bool
ends_too f = waits_no_more f && eqb f.returning 1

-- "the parent resumes on this worker, past its sync"
abbrev pub resumes : Frame → Bool
resumes f = waits_no_more f && not (eqb f.returning 1)

-- the frame at place q resumes on worker w
abbrev pub resume : Table → ℕ → ℕ → Table
resume t w q =
    record { deques = push t.deques w q; frames = set_frame t.frames q (with_suspended (frame_at t.frames q) 0); free_place = t.free_place }

-- worker w's deque is empty, and no more frames end: the parent of the last one, at place q, resumes, or the worker is idle
unfoldable pub go_on : Table → ℕ → ℕ → Table
go_on t w q = cond (resumes (frame_at t.frames q)) (resume t w q) t

unfoldable pub went_on : Table → ℕ → Returned
went_on t q = cond (resumes (frame_at t.frames q)) Resumed Idle

-- ---- steal: "an idle worker takes the top frame of a victim"

unfoldable pub steal : Table → ℕ → ℕ → Table
steal t w v = record { deques = push (drop_top t.deques v) w (top t.deques v); frames = t.frames; free_place = t.free_place }

-- the stolen frame
abbrev pub stolen : Table → ℕ → Frame
stolen t v = frame_at t.frames (top t.deques v)

-- ---- sync: "with no live child the bottom frame passes, outcome 0. Else it is suspended, its worker goes idle, outcome 1"

unfoldable pub sync : Table → ℕ → Table
sync t w = cond (eqb (acting t w).outstanding 0) t (suspend t w (with_suspended (acting t w) 1))

unfoldable pub synced : Table → ℕ → Synced
synced t w = cond (eqb (acting t w).outstanding 0) Passed Suspended

-- ---- fold: R-5, "Record kind 7 folds its value into the reducer named in its splitter field", in the bottom frame's view

unfoldable pub fold : Table → ℕ → ℕ → ℕ → Table
fold t w r v =
    with_frames t (set_frame t.frames (bottom t.deques w) (with_view (acting t w) (fold_view (acting t w).view r v)))

-- ---- document 01's numbers, and R-3's outcome 4

abbrev pub returned_number : Returned → ℕ
returned_number Continued = 0
returned_number Idle = 1
returned_number Resumed = 2
returned_number Finished = 3
returned_number Waiting = 4

abbrev pub synced_number : Synced → ℕ
synced_number Passed = 0
synced_number Suspended = 1
