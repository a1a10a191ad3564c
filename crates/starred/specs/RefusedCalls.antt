-- Refusals 1 to 6, R-6's 21, and the entries' own, 99: each at its condition and beside its nearest accepted neighbour, the order in which
-- they are checked, and what they leave. Two tables, a theorem each: starts, and tapes and steps. (1, 2, 21 and 3 are a start's, 4 a tape's, 5
-- and 6 of tapes and steps.)
use Rattle.std.specs.Prelude.{◌≡◌, refl, Bool, true, false, cond, ◌&&◌, List, [], ◌∷◌, ◌++◌, map, ℕ, zero, suc, ◌*◌, set, replicate, eqb}
use Rattle.std.proofs.Common.{ap, ◌∙◌}
use Rattle.words.specs.Basics.{none, same, δ, count}
use Rattle.sizes.specs.Sizes.{height, width, tree_nodes}
use Rattle.packed.specs.Pool.{refcount, links, content, left, right, set_node, leaf_of, read_at, init_level, init_inner, init_leaves, init_free, init_pool}
use Rattle.frames.specs.declared.Frame.{Frame}
use Rattle.frames.specs.Frames.{frame_at, set_frame, words_of as wordsOfRecord, record_in, free_record, init_places, init_frames}
use Rattle.frames.specs.Siblings.{chained}
use Rattle.frames.specs.Deques.{size, set_size, place, set_place, bottom, push, init_deques}
use Rattle.soundness.specs.Soundness.{one_main, parents_live, counts_right, placed_once, returning_right, links_right, totals_right, hold_live, absent_empty, linked, only_below, roots_below, cleared}
use Rattle.soundness.specs.PackedTrees.{tree_at, nodes_on, is_on}
use Rattle.model.specs.Record.{record_of, decode_at}
use Rattle.semantics.specs.Core.{read_on, step_on}
use Rattle.semantics.specs.Answers.{words_in}
use Rattle.semantics.specs.Entries.{State, zeros, is_sound, StartResult, start_on, start_with, OutsideResult, run_on, TapeResult}
use Rattle.semantics.specs.Calls.{Start, start_result, HostCall, outside, tape, StateAndPool, after_start, after_call}
use Rattle.semantics.specs.Demands.{answers_after, call_result, work_after}
use Rattle.starred.specs.Tapes.{reads, any_table, parts_with, any_parts, records_of, words_of, deques, identities, frame, live, rising, frames_in}
use Rattle.starred.specs.Quick.{tape_by, outside_by, tape_by_lem, outside_by_lem, sound_quick, sound_quick_lem, after-sound}
use Rattle.soundness.specs.Layout.{two_words}

-- ---- starts

-- a start, and its result
pub record StartRow : Type 0 where
  pub start : Start
  pub result : ℕ

-- with this many workers, initial values and words of the pool
abbrev lends : State → ℕ → ℕ → ℕ → ℕ → StartRow
lends parts workers n words k = record { start = record { parts = parts; workers = workers; values = replicate n 1; pool = replicate words 7 }; result = k }

-- the same, of whole nodes, over parts that fit
abbrev starts : ℕ → ℕ → ℕ → ℕ → StartRow
starts workers n nodes k = lends any_parts workers n (2 * nodes) k

-- "a refused start hands out a state of zeros" and changes nothing else, neither table nor pool; refused by 99 it leaves the parts too
abbrev left_by : Start → StartResult → Bool
left_by b o =
    same o.state.numbers (cond (eqb o.result 99) b.parts.numbers (replicate 10 0))
    && same o.state.deques (cond (eqb o.result 99) b.parts.deques (replicate 2056 0))
    && same (records_of o.state.frames) (records_of b.parts.frames)
    && same o.pool b.pool

-- the result; and whether it left what it must, if it was refused
abbrev start_seen : Start → ℕ × Bool
start_seen b =
    let o : StartResult = start_result two_words b in
    let left-right : Bool = left_by b o in
    (o.result, cond (eqb o.result 0) true left-right)

-- parts with one word more or less, and a table of so many places
abbrev sizes : ℕ → ℕ → ℕ → State
sizes ns ds ps = record { numbers = replicate ns 3; deques = replicate ds 3; frames = any_table ps }

pub start_table : List StartRow
start_table =
    -- "1. At a start, there are 0 or more than 256 initial values."
    starts 1 0 20 1
    ∷ starts 1 1 1 0
    ∷ starts 1 256 511 0
    ∷ starts 1 257 521 1
    -- "2. At a start, there are 0 or more than 8 workers."
    ∷ starts 0 1 1 2
    ∷ starts 8 1 1 0
    ∷ starts 9 1 1 2
    -- "3. At a start, the pool has fewer than T(n) .."
    ∷ starts 1 1 0 3
    ∷ starts 1 5 10 3
    ∷ starts 1 5 11 0
    ∷ starts 1 256 510 3
    -- words beyond the last whole node are no node
    ∷ lends any_parts 1 5 21 3
    ∷ lends any_parts 1 5 23 0
    -- ".. or more than 16,384 nodes."
    ∷ starts 1 1 16384 0
    ∷ starts 1 1 16385 3
    -- R-6: "21, at a start, the table has 0 or more than 256 places .."
    ∷ lends (parts_with 0) 1 1 2 21
    ∷ lends (parts_with 1) 1 1 2 0
    ∷ lends (parts_with 256) 1 1 2 0
    ∷ lends (parts_with 257) 1 1 2 21
    -- 1 before 2, 21 and 3
    ∷ starts 0 0 20 1
    ∷ starts 9 257 521 1
    ∷ starts 1 257 520 1
    ∷ lends (parts_with 0) 1 0 40 1
    ∷ lends (parts_with 257) 1 257 1042 1
    -- 2 before 21 and 3; ".. after 2."
    ∷ starts 0 5 10 2
    ∷ starts 9 5 10 2
    ∷ lends (parts_with 0) 0 1 2 2
    ∷ lends (parts_with 257) 9 1 2 2
    -- 21 before 3
    ∷ lends (parts_with 0) 1 5 20 21
    ∷ lends (parts_with 257) 1 5 20 21
    -- wrong in all four ways, in the last three, in the last two, in the last
    ∷ lends (parts_with 0) 9 257 0 1
    ∷ lends (parts_with 0) 9 256 0 2
    ∷ lends (parts_with 0) 8 256 0 21
    ∷ lends (parts_with 1) 8 256 0 3
    -- 99: a part of words has another length
    ∷ lends (sizes 10 2056 64) 1 1 2 0
    ∷ lends (sizes 9 2056 64) 1 1 2 99
    ∷ lends (sizes 11 2056 64) 1 1 2 99
    ∷ lends (sizes 10 2055 64) 1 1 2 99
    ∷ lends (sizes 10 2057 64) 1 1 2 99
    -- 99 before 1, 2, 21 and 3
    ∷ lends (sizes 9 2056 64) 1 0 40 99
    ∷ lends (sizes 10 2055 64) 0 1 2 99
    ∷ lends (sizes 9 2056 0) 1 1 2 99
    ∷ lends (sizes 10 2057 257) 1 1 2 99
    ∷ lends (sizes 11 2056 64) 1 1 0 99
    ∷ []

pub start_refusals : map (λ (row : StartRow). start_seen row.start) start_table ≡ map (λ (row : StartRow). (row.result, true)) start_table
unfolding start_table start_on start_with height width tree_nodes
start_refusals = refl

-- ---- tapes and steps

-- what a call finds
pub data Before : Type 0 where
  -- after a start: 2 workers, one splitter of value 1, 2 nodes, in a pool of 5 words, and a table of 8 places
  started : Before
  -- the same but for the numbers
  with_numbers : List ℕ → Before
  -- the same but for the first free place: 2, where it is 1
  unsound : Before
  -- the same but for a word of the frame record at a place: which place, which word, and what it is
  with_word : ℕ → ℕ → ℕ → Before
  -- Main is suspended, and R-3's word of its record is this; its child, with the same leaf, is on worker 0, in place 1, and names this as its next
  -- younger sibling
  suspended : ℕ → ℕ → Before
  -- the same with another child, on worker 1, in place 2: what each names
  siblings : ℕ → ℕ → Before
  -- no frame lives, and these are the totals
  ended : List ℕ → Before
  -- R-6: this is the recorded length, the table has so many places, Main in the first one, and this is the first free place
  tabled : ℕ → ℕ → ℕ → Before
  -- numbers and deques of these lengths, with words that are not sound
  lengths : ℕ → ℕ → Before
  -- a state of zeros and no pool
  nothing : Before

abbrev begun : Start
begun = record { parts = parts_with 8; workers = 2; values = 1 ∷ []; pool = replicate 5 7 }

abbrev numbered : StateAndPool → List ℕ → StateAndPool
numbered h ks = record { state = record { numbers = ks; deques = h.state.deques; frames = h.state.frames }; pool = h.pool }

-- 2 workers, one splitter, 2 nodes, of which 1 is free; the first free place, the totals, and the length 8
abbrev numbers : ℕ → List ℕ → List ℕ
numbers p totals = 2 ∷ 1 ∷ 2 ∷ 1 ∷ p ∷ (totals ++ (8 ∷ []))

-- R-5: "zero while Main lives"
abbrev zero_totals : List ℕ
zero_totals = 0 ∷ 0 ∷ 0 ∷ 0 ∷ []

-- node 0 with so many holders, node 1 free
abbrev leaf_held_by : ℕ → List ℕ
leaf_held_by k = k ∷ 1 ∷ 0 ∷ none ∷ 7 ∷ []

-- Main, suspended, with k children
abbrev suspended_main : ℕ → ℕ → Frame
suspended_main k returning = frame none 0 k 1 0 returning identities none

-- a child of Main
abbrev child_of : ℕ → Frame
child_of younger = frame 0 1 0 0 0 0 identities younger

abbrev one_child : ℕ → ℕ → StateAndPool
one_child x y =
    record {
      state = record { numbers = numbers 2 zero_totals; deques = deques (1 ∷ []) []; frames = frames_in 8 (suspended_main 1 x ∷ child_of y ∷ []) };
      pool = leaf_held_by 2;
    }

abbrev two_children : ℕ → ℕ → StateAndPool
two_children y z =
    record {
      state = record { numbers = numbers 3 zero_totals; deques = deques (1 ∷ []) (2 ∷ []); frames = frames_in 8 (suspended_main 2 0 ∷ child_of y ∷ child_of z ∷ []) };
      pool = leaf_held_by 3;
    }

-- both nodes are free, and every place is
abbrev none_lives : List ℕ → StateAndPool
none_lives totals =
    record {
      state = record { numbers = 2 ∷ 1 ∷ 2 ∷ 0 ∷ 0 ∷ (totals ++ (8 ∷ [])); deques = deques [] []; frames = frames_in 8 (free_record 1 ∷ []) };
      pool = 0 ∷ 1 ∷ 0 ∷ none ∷ 7 ∷ [];
    }

-- Main in the first of so many places
abbrev main_in : ℕ → List Frame
main_in zero = []
main_in (suc k) = live none 0 0 0 0 ∷ rising k 2

abbrev with_table : ℕ → ℕ → ℕ → StateAndPool
with_table l k p =
    record { state = record { numbers = 2 ∷ 1 ∷ 2 ∷ 1 ∷ p ∷ (zero_totals ++ (l ∷ [])); deques = deques (0 ∷ []) []; frames = main_in k }; pool = leaf_held_by 1 }

-- a record with another word i
abbrev with_word_in : Frame → ℕ → ℕ → Frame
with_word_in f i x = record_in (set (wordsOfRecord f) i x)

-- after the start h
abbrev found_in : StateAndPool → Before → StateAndPool
found_in h started = h
found_in h (with_numbers ks) = numbered h ks
found_in h unsound = numbered h (numbers 2 zero_totals)
found_in h (with_word p i x) =
    record { state = record { numbers = h.state.numbers; deques = h.state.deques; frames = set_frame h.state.frames p (with_word_in (frame_at h.state.frames p) i x) }; pool = h.pool }
found_in h (suspended x y) = one_child x y
found_in h (siblings y z) = two_children y z
found_in h (ended totals) = none_lives totals
found_in h (tabled l k p) = with_table l k p
found_in h (lengths ns ds) = record { state = sizes ns ds 8; pool = replicate 5 7 }
found_in h nothing = record { state = zeros h.state.frames; pool = [] }

abbrev found : Before → StateAndPool
found b = found_in (after_start two_words begun) b

-- a call, its result (of a step the first answer word), and the answer words and the work slice after it
pub record CallRow : Type 0 where
  pub before : Before
  pub call : HostCall
  pub result : ℕ
  pub answers : List ℕ
  pub work : List ℕ

-- what is seen: all this, and whether the state, its table and the pool are as before (accepted steps here are reads)
pub record CallSeen : Type 0 where
  pub result : ℕ
  pub answers : List ℕ
  pub work : List ℕ
  pub same-words : Bool

abbrev call_seen : StateAndPool → HostCall → CallSeen
call_seen h c =
    record {
      result = call_result two_words h c;
      answers = answers_after two_words h c;
      work = work_after two_words h c;
      same-words = same (words_of (after_call two_words h c).state) (words_of h.state) && same (after_call two_words h c).pool h.pool;
    }

abbrev call_said : CallRow → CallSeen
call_said r = record { result = r.result; answers = r.answers; work = r.work; same-words = true }

-- a tape of these bytes with k words of work and m answer words: 5 and 9 before it
abbrev plays : Before → List ℕ → ℕ → ℕ → (result : ℕ) (answers work : List ℕ) → CallRow
plays h bs k m r as' ks = record { before = h; call = tape bs (replicate k 5) (replicate m 9); result = r; answers = as'; work = ks }

-- a tape that leaves answer words and work as they were
abbrev refuses : Before → List ℕ → ℕ → ℕ → ℕ → CallRow
refuses h bs k m r = plays h bs k m r (replicate m 9) (replicate k 5)

-- a step from outside: a read of splitter 0 by worker 0, or one with the kind 0
abbrev steps : Before → ℕ → ℕ → (result : ℕ) (work : List ℕ) → CallRow
steps h kind k r ks = record { before = h; call = outside kind 0 0 0 (replicate k 5); result = r; answers = []; work = ks }

abbrev one_read : List ℕ
one_read = reads 0 0

pub call_table : List CallRow
call_table =
    -- "4. The tape is not a multiple of 8 bytes .."
    plays started one_read 3 3 0 (105 ∷ 1 ∷ 9 ∷ []) (0 ∷ 0 ∷ 5 ∷ [])
    ∷ plays started [] 3 1 0 (9 ∷ []) (0 ∷ 0 ∷ 5 ∷ [])
    ∷ refuses started (one_read ++ (0 ∷ [])) 3 3 4
    ∷ refuses started (5 ∷ 0 ∷ 0 ∷ 0 ∷ 0 ∷ 0 ∷ 0 ∷ []) 3 3 4
    ∷ refuses started (0 ∷ []) 3 3 4
    -- ".. or the answer slice has fewer than two words per record."
    ∷ plays started one_read 3 2 0 (105 ∷ 1 ∷ []) (0 ∷ 0 ∷ 5 ∷ [])
    ∷ refuses started one_read 3 1 4
    ∷ plays started (one_read ++ one_read) 2 4 0 (105 ∷ 1 ∷ 105 ∷ 1 ∷ []) (0 ∷ 0 ∷ [])
    ∷ refuses started (one_read ++ one_read) 2 3 4
    -- "5. The work slice has fewer words than the recorded node count."
    ∷ plays started one_read 2 2 0 (105 ∷ 1 ∷ []) (0 ∷ 0 ∷ [])
    ∷ refuses started one_read 1 2 5
    ∷ steps started 5 2 105 (0 ∷ 0 ∷ [])
    ∷ steps started 5 1 5 (5 ∷ [])
    -- "6. State and pool are not sound."
    ∷ plays (with_numbers (numbers 1 zero_totals)) one_read 3 3 0 (105 ∷ 1 ∷ 9 ∷ []) (0 ∷ 0 ∷ 5 ∷ [])
    ∷ plays unsound one_read 3 3 6 (9 ∷ 9 ∷ 9 ∷ []) (0 ∷ 0 ∷ 5 ∷ [])
    ∷ plays unsound [] 3 3 6 (9 ∷ 9 ∷ 9 ∷ []) (0 ∷ 0 ∷ 5 ∷ [])
    ∷ steps unsound 5 3 6 (0 ∷ 0 ∷ 5 ∷ [])
    -- R-3: "1 on a frame waiting so, which is suspended, else 0; anything else there is unsound."
    ∷ plays (suspended 1 none) one_read 3 3 0 (105 ∷ 1 ∷ 9 ∷ []) (0 ∷ 0 ∷ 5 ∷ [])
    ∷ plays (suspended 0 none) one_read 3 3 0 (105 ∷ 1 ∷ 9 ∷ []) (0 ∷ 0 ∷ 5 ∷ [])
    ∷ plays (suspended 2 none) one_read 3 3 6 (9 ∷ 9 ∷ 9 ∷ []) (0 ∷ 0 ∷ 5 ∷ [])
    ∷ steps (suspended none none) 5 3 6 (0 ∷ 0 ∷ 5 ∷ [])
    -- Main is on a deque; the place is free: the next, or the last
    ∷ steps (with_word 0 6 1) 5 3 6 (0 ∷ 0 ∷ 5 ∷ [])
    ∷ steps (with_word 0 6 2) 5 3 6 (0 ∷ 0 ∷ 5 ∷ [])
    ∷ steps (with_word 1 6 1) 5 3 6 (0 ∷ 0 ∷ 5 ∷ [])
    ∷ steps (with_word 7 6 1) 5 3 6 (0 ∷ 0 ∷ 5 ∷ [])
    -- R-5: the totals are "zero while Main lives"; "Soundness asks for those zeros". Each of the four
    ∷ steps (with_numbers (numbers 1 (1 ∷ 0 ∷ 0 ∷ 0 ∷ []))) 5 3 6 (0 ∷ 0 ∷ 5 ∷ [])
    ∷ steps (with_numbers (numbers 1 (0 ∷ none ∷ 0 ∷ 0 ∷ []))) 5 3 6 (0 ∷ 0 ∷ 5 ∷ [])
    ∷ steps (with_numbers (numbers 1 (0 ∷ 0 ∷ 1 ∷ 0 ∷ []))) 5 3 6 (0 ∷ 0 ∷ 5 ∷ [])
    ∷ plays (with_numbers (numbers 1 (0 ∷ 0 ∷ 0 ∷ 1 ∷ []))) one_read 3 3 6 (9 ∷ 9 ∷ 9 ∷ []) (0 ∷ 0 ∷ 5 ∷ [])
    -- once Main has returned they may be any words: the state is sound, and the read is refused by 9
    ∷ plays (ended (0 ∷ none ∷ 1 ∷ 0 ∷ [])) one_read 3 3 0 (9 ∷ 0 ∷ 9 ∷ []) (0 ∷ 0 ∷ 5 ∷ [])
    ∷ plays (ended (5 ∷ 6 ∷ 7 ∷ 8 ∷ [])) one_read 3 3 0 (9 ∷ 0 ∷ 9 ∷ []) (0 ∷ 0 ∷ 5 ∷ [])
    ∷ steps (ended zero_totals) 5 3 9 (0 ∷ 0 ∷ 5 ∷ [])
    -- the view words of a live frame may be any words; of a free place they are zero, and so is the link
    ∷ steps (with_word 0 7 5) 5 3 105 (0 ∷ 0 ∷ 5 ∷ [])
    ∷ steps (with_word 0 10 none) 5 3 105 (0 ∷ 0 ∷ 5 ∷ [])
    ∷ steps (with_word 1 7 1) 5 3 6 (0 ∷ 0 ∷ 5 ∷ [])
    ∷ steps (with_word 1 8 none) 5 3 6 (0 ∷ 0 ∷ 5 ∷ [])
    ∷ steps (with_word 7 9 1) 5 3 6 (0 ∷ 0 ∷ 5 ∷ [])
    ∷ steps (with_word 7 10 1) 5 3 6 (0 ∷ 0 ∷ 5 ∷ [])
    ∷ steps (with_word 1 11 none) 5 3 6 (0 ∷ 0 ∷ 5 ∷ [])
    -- "Main's being none"
    ∷ steps (with_word 0 11 0) 5 3 6 (0 ∷ 0 ∷ 5 ∷ [])
    ∷ steps (with_word 0 11 1) 5 3 6 (0 ∷ 0 ∷ 5 ∷ [])
    -- "these links chain the live children of each frame, each once": an only child that names itself, its parent, a free place
    ∷ steps (suspended 0 1) 5 3 6 (0 ∷ 0 ∷ 5 ∷ [])
    ∷ steps (suspended 0 0) 5 3 6 (0 ∷ 0 ∷ 5 ∷ [])
    ∷ steps (suspended 0 2) 5 3 6 (0 ∷ 0 ∷ 5 ∷ [])
    ∷ steps (suspended 0 8) 5 3 6 (0 ∷ 0 ∷ 5 ∷ [])
    -- of two children either may be the elder
    ∷ plays (siblings 2 none) one_read 3 3 0 (105 ∷ 1 ∷ 9 ∷ []) (0 ∷ 0 ∷ 5 ∷ [])
    ∷ plays (siblings none 1) one_read 3 3 0 (105 ∷ 1 ∷ 9 ∷ []) (0 ∷ 0 ∷ 5 ∷ [])
    ∷ plays (siblings none none) one_read 3 3 6 (9 ∷ 9 ∷ 9 ∷ []) (0 ∷ 0 ∷ 5 ∷ [])
    ∷ steps (siblings 2 1) 5 3 6 (0 ∷ 0 ∷ 5 ∷ [])
    ∷ steps (siblings 1 none) 5 3 6 (0 ∷ 0 ∷ 5 ∷ [])
    ∷ steps (siblings 2 2) 5 3 6 (0 ∷ 0 ∷ 5 ∷ [])
    -- R-6: "Later, a recorded length not 1 to 256 .. is unsound": 8, 1 and 2 are sound; 0, also with a table of none, 257 with one of 257, none
    ∷ plays (tabled 8 8 1) one_read 3 3 0 (105 ∷ 1 ∷ 9 ∷ []) (0 ∷ 0 ∷ 5 ∷ [])
    ∷ plays (tabled 1 1 none) one_read 3 3 0 (105 ∷ 1 ∷ 9 ∷ []) (0 ∷ 0 ∷ 5 ∷ [])
    ∷ steps (tabled 2 2 1) 5 3 105 (0 ∷ 0 ∷ 5 ∷ [])
    ∷ plays (tabled 0 8 1) one_read 3 3 6 (9 ∷ 9 ∷ 9 ∷ []) (0 ∷ 0 ∷ 5 ∷ [])
    ∷ steps (tabled 0 8 1) 5 3 6 (0 ∷ 0 ∷ 5 ∷ [])
    ∷ steps (tabled 0 0 none) 5 3 6 (0 ∷ 0 ∷ 5 ∷ [])
    ∷ plays (tabled 257 257 1) one_read 3 3 6 (9 ∷ 9 ∷ 9 ∷ []) (0 ∷ 0 ∷ 5 ∷ [])
    ∷ steps (tabled 257 8 1) 5 3 6 (0 ∷ 0 ∷ 5 ∷ [])
    ∷ steps (tabled none 8 1) 5 3 6 (0 ∷ 0 ∷ 5 ∷ [])
    -- ".. or a table of another length": one place less or more, the record or the table; no place; all that there can be
    ∷ plays (tabled 7 8 1) one_read 3 3 6 (9 ∷ 9 ∷ 9 ∷ []) (0 ∷ 0 ∷ 5 ∷ [])
    ∷ plays (tabled 8 7 1) one_read 3 3 6 (9 ∷ 9 ∷ 9 ∷ []) (0 ∷ 0 ∷ 5 ∷ [])
    ∷ steps (tabled 9 8 1) 5 3 6 (0 ∷ 0 ∷ 5 ∷ [])
    ∷ steps (tabled 8 9 1) 5 3 6 (0 ∷ 0 ∷ 5 ∷ [])
    ∷ steps (tabled 2 1 none) 5 3 6 (0 ∷ 0 ∷ 5 ∷ [])
    ∷ steps (tabled 1 2 1) 5 3 6 (0 ∷ 0 ∷ 5 ∷ [])
    ∷ steps (tabled 8 0 none) 5 3 6 (0 ∷ 0 ∷ 5 ∷ [])
    ∷ steps (tabled 256 8 1) 5 3 6 (0 ∷ 0 ∷ 5 ∷ [])
    ∷ steps (tabled 8 256 1) 5 3 6 (0 ∷ 0 ∷ 5 ∷ [])
    -- a table of one place has none that is free
    ∷ steps (tabled 1 1 1) 5 3 6 (0 ∷ 0 ∷ 5 ∷ [])
    -- a state of zeros is not sound; it records no node
    ∷ steps nothing 5 1 6 (5 ∷ [])
    -- 4 before 5 and 6; 5 before 6
    ∷ refuses started (one_read ++ (0 ∷ [])) 1 3 4
    ∷ refuses unsound (one_read ++ (0 ∷ [])) 3 3 4
    ∷ refuses started one_read 1 1 4
    ∷ refuses unsound one_read 3 1 4
    ∷ refuses unsound one_read 1 3 5
    ∷ refuses (tabled 0 8 1) (one_read ++ (0 ∷ [])) 3 3 4
    ∷ refuses (tabled 8 7 1) one_read 1 3 5
    ∷ steps unsound 5 1 5 (5 ∷ [])
    -- 5 and 6 before 7
    ∷ steps started 0 2 7 (0 ∷ 0 ∷ [])
    ∷ steps started 0 1 5 (5 ∷ [])
    ∷ steps unsound 0 2 6 (0 ∷ 0 ∷ [])
    -- 99: a part of words has another length
    ∷ refuses (with_numbers (numbers 1 (0 ∷ 0 ∷ 0 ∷ []))) one_read 3 3 99
    ∷ refuses (with_numbers (numbers 1 (0 ∷ 0 ∷ 0 ∷ 0 ∷ 0 ∷ []))) one_read 3 3 99
    ∷ steps (with_numbers (numbers 1 (0 ∷ 0 ∷ 0 ∷ []))) 5 3 99 (5 ∷ 5 ∷ 5 ∷ [])
    ∷ steps (with_numbers (numbers 1 (0 ∷ 0 ∷ 0 ∷ 0 ∷ 0 ∷ []))) 5 3 99 (5 ∷ 5 ∷ 5 ∷ [])
    ∷ refuses (lengths 10 2055) one_read 3 3 99
    ∷ refuses (lengths 10 2057) one_read 3 3 99
    ∷ steps (lengths 10 2055) 5 3 99 (5 ∷ 5 ∷ 5 ∷ [])
    ∷ steps (lengths 10 2057) 5 3 99 (5 ∷ 5 ∷ 5 ∷ [])
    -- 99 before 4, 5, 6 (the words above are not sound) and 7
    ∷ refuses (with_numbers (numbers 1 (0 ∷ 0 ∷ 0 ∷ []))) (0 ∷ []) 3 3 99
    ∷ refuses (with_numbers (numbers 1 (0 ∷ 0 ∷ 0 ∷ []))) one_read 1 3 99
    ∷ steps (with_numbers (numbers 1 (0 ∷ 0 ∷ 0 ∷ []))) 5 1 99 (5 ∷ [])
    ∷ steps (with_numbers (numbers 1 (0 ∷ 0 ∷ 0 ∷ []))) 0 3 99 (5 ∷ 5 ∷ 5 ∷ [])
    ∷ []

-- given whether state and pool are sound
abbrev told : StateAndPool → (result : ℕ) (answers work : List ℕ) → State → List ℕ → CallSeen
told h r as' work s ws = record { result = r; answers = as'; work = work; same-words = same (words_of s) (words_of h.state) && same ws h.pool }

abbrev step_told : StateAndPool → OutsideResult → CallSeen
step_told h o = told h (words_in o.result).0 [] o.work o.state o.pool

abbrev tape_told : StateAndPool → TapeResult → CallSeen
tape_told h o = told h o.result o.answers o.work o.state o.pool

abbrev seen_by : Bool → StateAndPool → HostCall → CallSeen
seen_by v h (outside kind worker field value work) = let o : OutsideResult = outside_by v h kind worker field value work in step_told h o
seen_by v h (tape bytes work answers) = let o : TapeResult = tape_by v h bytes work answers in tape_told h o

seen_by_lem : {v : Bool} (h : StateAndPool) (c : HostCall) → is_sound two_words h.state h.pool ≡ v → call_seen h c ≡ seen_by v h c
seen_by_lem h (outside kind worker field value work) e = ap (step_told h) (outside_by_lem h kind worker field value work e)
seen_by_lem h (tape bytes work answers) e = ap (tape_told h) (tape_by_lem h bytes work answers e)

begins : (start_result two_words begun).result ≡ 0
unfolding start_on start_with tree_nodes height width
begins = refl

-- whether state and pool are sound; of those whose lengths are refused it does not matter
abbrev sound_as : Before → Bool
sound_as started = true
sound_as (with_numbers ks) = sound_quick (found (with_numbers ks)).state (after_start two_words begun).pool
sound_as unsound = false
sound_as (with_word p i x) = sound_quick (found (with_word p i x)).state (after_start two_words begun).pool
sound_as (suspended x y) = sound_quick (one_child x y).state (one_child x y).pool
sound_as (siblings y z) = sound_quick (two_children y z).state (two_children y z).pool
sound_as (ended totals) = sound_quick (none_lives totals).state (none_lives totals).pool
sound_as (tabled l k p) = sound_quick (with_table l k p).state (with_table l k p).pool
sound_as (lengths ns ds) = sound_quick (sizes ns ds 8) (replicate 5 7)
sound_as nothing = sound_quick (zeros (after_start two_words begun).state.frames) []

not_sound : sound_quick (found unsound).state (after_start two_words begun).pool ≡ false
unfolding one_main parents_live counts_right placed_once returning_right links_right totals_right chained hold_live absent_empty linked only_below start_on start_with init_deques push set_size set_place init_frames init_places set_frame init_pool init_free init_leaves init_inner init_level set_node height width tree_nodes size place frame_at δ count content links
not_sound = refl

sound_as_lem : (b : Before) → is_sound two_words (found b).state (found b).pool ≡ sound_as b
sound_as_lem started = after-sound begun [] begins
sound_as_lem (with_numbers ks) = sound_quick_lem (found (with_numbers ks)).state (after_start two_words begun).pool
sound_as_lem unsound = sound_quick_lem (found unsound).state (after_start two_words begun).pool ∙ not_sound
sound_as_lem (with_word p i x) = sound_quick_lem (found (with_word p i x)).state (after_start two_words begun).pool
sound_as_lem (suspended x y) = sound_quick_lem (one_child x y).state (one_child x y).pool
sound_as_lem (siblings y z) = sound_quick_lem (two_children y z).state (two_children y z).pool
sound_as_lem (ended totals) = sound_quick_lem (none_lives totals).state (none_lives totals).pool
sound_as_lem (tabled l k p) = sound_quick_lem (with_table l k p).state (with_table l k p).pool
sound_as_lem (lengths ns ds) = sound_quick_lem (sizes ns ds 8) (replicate 5 7)
sound_as_lem nothing = sound_quick_lem (zeros (after_start two_words begun).state.frames) []

abbrev row_quick : CallRow → CallSeen
row_quick r = seen_by (sound_as r.before) (found r.before) r.call

row_quick_lem : (r : CallRow) → call_seen (found r.before) r.call ≡ row_quick r
row_quick_lem r = seen_by_lem (found r.before) r.call (sound_as_lem r.before)

calls_quickly : map row_quick call_table ≡ map call_said call_table
unfolding call_table run_on record_of decode_at read_on step_on bottom read_at leaf_of start_on start_with init_deques push set_size set_place init_frames init_places set_frame init_pool init_free init_leaves init_inner init_level set_node height width tree_nodes size place frame_at cleared roots_below one_main parents_live counts_right placed_once returning_right links_right totals_right chained hold_live absent_empty linked only_below tree_at nodes_on is_on refcount left right δ count content links
calls_quickly = refl

pub call_refusals : map (λ (row : CallRow). call_seen (found row.before) row.call) call_table ≡ map call_said call_table
call_refusals = (λ i. map (λ (row : CallRow). row_quick_lem row i) call_table) ∙ calls_quickly
