-- The check of frames and deques over a table of records and the deques' words: what the functions of src/ compute. Definitions only; that it is document
-- 01's soundness is the theorem of Theorem. It is linear in the places: how often a place stands somewhere is counted in an
-- array of tallies, one word for each place, instead of searched for. The word holds two counts and, above them, a sum from which a frame's eldest live
-- child is known.
use Rattle.std.specs.Prelude.{Bool, cond, not, ◌||◌, ◌&&◌, List, ℕ, zero, suc, ◌-◌, ◌/◌, ◌%◌, length, get_or, set, replicate, eqb, leb, ltb}
use Rattle.words.specs.Basics.{none, plus, minus, times, all, how_many, implies}
use Rattle.frames.specs.Widths.{max_workers, max_places, deque_places}
use Rattle.frames.specs.declared.Frame.{Frame}
use Rattle.frames.specs.Frames.{frame_at}
use Rattle.frames.specs.Siblings.{chained}
use Rattle.frames.specs.Deques.{size, place}
use Rattle.soundness.specs.Soundness.{view_zero}
use Rattle.frame_check.specs.declared.tallies.Census.{Census}

-- ---- tallies

-- the steps in which a place's word counts its children, its places in deques, and its children's places less the places that they name as their next
-- younger siblings: if these links chain the children, the last naming none, which is -1, one more than the eldest's place is left of that sum. So a word
-- has 10 bits for the children, which are at most 256; 12 for its places in deques, at most 8 times 256; and 10 for the sum modulo 1,024, which tells one
-- more than a place, at most 256
abbrev pub child_step : ℕ
child_step = 1

abbrev pub deque_step : ℕ
deque_step = 1024

-- the places in deques are fewer
abbrev pub deque_span : ℕ
deque_span = 4096

-- deque_step times deque_span
abbrev pub link_step : ℕ
link_step = 4194304

-- 2 ^ 32 / link_step
abbrev pub link_span : ℕ
link_span = 1024

-- the word taken apart
abbrev pub child_count : ℕ → ℕ
child_count t = t % deque_step

abbrev pub deque_count : ℕ → ℕ
deque_count t = t / deque_step % deque_span

abbrev pub link_sum : ℕ → ℕ
link_sum t = t / link_step

-- one step more at p; past the end, nothing
unfoldable pub bump : ℕ → List ℕ → ℕ → List ℕ
bump step ts p = set ts p (plus (get_or ts p 0) step)

-- s 0 more at f 0, .., s (n - 1) more at f (n - 1)
unfoldable pub tally : (ℕ → ℕ) → ℕ → (ℕ → ℕ) → List ℕ → List ℕ
tally s zero f ts = ts
tally s (suc n) f ts = bump (s n) (tally s n f ts) (f n)

-- where a frame is counted as a child: at its parent if it lives, else nowhere
abbrev pub child_at : Frame → ℕ
child_at f = cond (eqb f.live 1) f.parent none

abbrev pub child_in : List Frame → ℕ → ℕ
child_in fs c = child_at (frame_at fs c)

-- what the child at c adds there, whose next younger sibling is y
abbrev pub step_of : ℕ → ℕ → ℕ
step_of c y = plus (times (minus c y) link_step) child_step

abbrev pub step_in : List Frame → ℕ → ℕ
step_in fs c = step_of c (frame_at fs c).younger

-- at each place its live children
abbrev pub tally_children : List Frame → List ℕ → List ℕ
tally_children fs = tally (step_in fs) (length fs) (child_in fs)

-- at each place how often it stands in deque w
abbrev pub tally_deque : List ℕ → ℕ → List ℕ → List ℕ
tally_deque ds w = tally (λ k. deque_step) (size ds w) (place ds w)

-- at each place how often it stands in the deques of the first n workers
unfoldable pub tally_deques : ℕ → List ℕ → List ℕ → List ℕ
tally_deques zero ds ts = ts
tally_deques (suc w) ds ts = tally_deque ds w (tally_deques w ds ts)

-- ---- deques

-- place k of deque w is zero, if it is past the deque's n frames
abbrev pub zero_past : List ℕ → ℕ → ℕ → ℕ → Bool
zero_past ds w n k = ltb k n || eqb (place ds w k) 0

-- deque w has no more frames than the table has places, none if the worker does not exist, and zeros past them
abbrev pub deque_fits : ℕ → ℕ → List ℕ → ℕ → Bool
deque_fits workers places ds w = leb (size ds w) places && ((ltb w workers || eqb (size ds w) 0) && all deque_places (zero_past ds w (size ds w)))

-- a frame's outstanding count is 1 if there is a frame below it, else 0
abbrev pub child_below : Frame → Bool → Bool
child_below f more = eqb f.outstanding (cond more 1 0)

-- of the frame f at place p, k places below the top of a deque of n frames, and the place above it
abbrev pub in_deque : ℕ → Frame → ℕ → ℕ → ℕ → ℕ → Bool
in_deque places f p above k n = (ltb p places && eqb f.live 1) && (eqb k 0 || (eqb f.parent above && child_below f (ltb (suc k) n)))

abbrev pub on_deque : List ℕ → List Frame → ℕ → ℕ → Bool
on_deque ds fs w k = in_deque (length fs) (frame_at fs (place ds w k)) (place ds w k) (place ds w (k - 1)) k (size ds w)

abbrev pub deque_sound : List ℕ → List Frame → ℕ → Bool
deque_sound ds fs w = all (size ds w) (on_deque ds fs w)

-- ---- places

abbrev pub is_flat : Frame → Bool
is_flat f = eqb f.depth 0

abbrev pub main_at : List Frame → ℕ → Bool
main_at fs p = eqb (frame_at fs p).live 1 && is_flat (frame_at fs p)

abbrev pub mains : List Frame → ℕ
mains fs = how_many (length fs) (main_at fs)

abbrev pub live_at : List Frame → ℕ → Bool
live_at fs p = eqb (frame_at fs p).live 1

abbrev pub lives : List Frame → ℕ
lives fs = how_many (length fs) (live_at fs)

-- one more than the last place below c where a frame lives, or 0
unfoldable pub end_to : List Frame → ℕ → ℕ
end_to fs zero = 0
end_to fs (suc c) = cond (live_at fs c) (suc c) (end_to fs c)

abbrev pub live_end : List Frame → ℕ
live_end fs = end_to fs (length fs)

-- what is counted below place p
abbrev pub census_to : List Frame → ℕ → Census
census_to fs p = record { mains = how_many p (main_at fs); live = how_many p (live_at fs); end = end_to fs p }

-- ---- one place: what the record f at place p adds to the tallies ts, and to what is counted

abbrev pub child_tallied : List ℕ → ℕ → Frame → List ℕ
child_tallied ts p f = cond (eqb f.live 1) (bump (step_of p f.younger) ts f.parent) ts

abbrev pub with_live : Census → ℕ → Frame → Census
with_live c p f = record { mains = plus c.mains (cond (is_flat f) 1 0); live = plus c.live 1; end = plus p 1 }

abbrev pub counted : Census → ℕ → Frame → Census
counted c p f = cond (eqb f.live 1) (with_live c p f) c

-- of a live frame and the record that its parent's word names: Main has none, any other frame a live one, one shallower
abbrev pub parent_sound : ℕ → Frame → Frame → Bool
parent_sound places f g =
    cond (eqb f.depth 0) (eqb f.parent none) (ltb f.parent places && (eqb g.live 1 && eqb f.depth (suc g.depth)))

-- of a live frame with c live children that stands on n places of deques: it waits if it stands on none
abbrev pub placed_sound : Frame → ℕ → ℕ → Bool
placed_sound f c n = (eqb n 1 && eqb f.suspended 0) || (eqb n 0 && (eqb f.suspended 1 && ltb 0 c))

-- R-3: "1 on a frame waiting so, which is suspended, else 0"
abbrev pub returning_sound : Frame → Bool
returning_sound f = eqb f.returning 0 || (eqb f.returning 1 && eqb f.suspended 1)

-- R-5, of a live frame and its parent g: Main and an only child name no sibling
abbrev pub younger_sound : Frame → Frame → Bool
younger_sound f g = eqb f.younger none || (not (is_flat f) && ltb 1 g.outstanding)

-- of a live frame and its parent g, all of this
abbrev pub live_sound : ℕ → Frame → Frame → ℕ → ℕ → Bool
live_sound places f g c n = eqb f.outstanding c && (parent_sound places f g && (placed_sound f c n && (returning_sound f && younger_sound f g)))

-- R-5: the links chain the c live children of the frame at q, if they are more than one, from the eldest on, which the sum s of their links tells
abbrev pub siblings_sound : List Frame → ℕ → ℕ → ℕ → Bool
siblings_sound fs q c s = leb c 1 || chained c fs q (s - 1)

abbrev pub place_sound : List Frame → ℕ → ℕ → ℕ → ℕ → Bool
place_sound fs p c n s = implies (live_at fs p) (siblings_sound fs p c s && live_sound (length fs) (frame_at fs p) (frame_at fs (frame_at fs p).parent) c n)

-- of a place and its word t of the tallies
abbrev pub word_sound : List Frame → ℕ → ℕ → Bool
word_sound fs p t = place_sound fs p (child_count t) (deque_count t) (link_sum t)

-- every place, with its word of the tallies
abbrev pub place_tallied : List Frame → List ℕ → ℕ → Bool
place_tallied fs ts p = word_sound fs p (get_or ts p 0)

-- ---- the free chain

abbrev pub next : List Frame → ℕ → ℕ
next fs p = (frame_at fs p).parent

-- zero but for the link
abbrev pub free_sound : Frame → Bool
free_sound f =
    eqb f.live 0 &&
    (eqb f.depth 0 &&
    (eqb f.outstanding 0 && (eqb f.suspended 0 && (eqb f.root 0 && (eqb f.returning 0 && (view_zero f.view && eqb f.younger 0))))))

-- the chain from place p on has just c places, all of them free
unfoldable pub chain_from : List Frame → ℕ → ℕ → Bool
chain_from fs zero p = eqb p none
chain_from fs (suc c) p = ltb p (length fs) && (free_sound (frame_at fs p) && chain_from fs c (next fs p))

-- ---- one place, with its word t of the tallies

-- a frame f with two live children or more
abbrev pub many_children : Frame → ℕ → Bool
many_children f t = eqb f.live 1 && ltb 1 (child_count t)

-- the links of the live children of the frame at q are right, if a frame lives there
abbrev pub links_sound : List Frame → ℕ → ℕ → Bool
links_sound fs q t = implies (live_at fs q) (siblings_sound fs q (child_count t) (link_sum t))

-- and the rest of it: of the record f and its parent's record g
abbrev pub record_sound : ℕ → Frame → Frame → ℕ → Bool
record_sound places f g t = implies (eqb f.live 1) (live_sound places f g (child_count t) (deque_count t))

-- ---- the whole

abbrev pub zeros : List ℕ
zeros = replicate max_places 0

-- the tallies of the whole check
abbrev pub tallies : List ℕ → List Frame → List ℕ
tallies ds fs = tally_deques max_workers ds (tally_children fs zeros)

-- a place, with these tallies
abbrev pub place_checked : List ℕ → List Frame → ℕ → Bool
place_checked ds fs = place_tallied fs (tallies ds fs)

-- where a frame lives its ancestors lead to a Main, so one at most is enough; a chain that ends has no place twice, so with as
-- many places as no frame lives in it has each of them
unfoldable pub check_frames : ℕ → ℕ → List ℕ → List Frame → Bool
check_frames workers first ds fs =
    all max_workers (deque_fits workers (length fs) ds) &&
    ((all max_workers (deque_sound ds fs) && chain_from fs (length fs - lives fs) first) &&
    (leb (mains fs) 1 && all (length fs) (place_checked ds fs)))
