-- The words of the state, its frame table and the words of the pool after short runs: how nodes and frame places are numbered, taken and freed, what
-- views and links of siblings the frame records hold (R-5), and how short tables fill (R-6).
use Rattle.std.specs.Prelude.{◌≡◌, refl, cond, List, [], ◌∷◌, ◌++◌, map, ℕ, ◌+◌, ◌*◌, length, replicate, eqb}
use Rattle.std.proofs.Common.{◌∙◌}
use Rattle.words.specs.Basics.{none, joined}
use Rattle.sizes.specs.Sizes.{height, width, tree_nodes, bit}
use Rattle.pool.specs.Pool.{side}
use Rattle.packed.specs.Pool.{refcount, links, content, left, right, set_node, set_refcount, child, sibling, leaf_of, read_at, retain, release, path_node, copy_path, set_value, set_link, renew, first_shared, rest, write_from, write, init_level, init_inner, init_leaves, init_free, init_pool, set_content}
use Rattle.reducers.specs.Reducers.{fold_view}
use Rattle.frames.specs.declared.Frame.{Frame}
use Rattle.frames.specs.Frames.{frame_at, set_frame, free_record as free, init_places, init_frames}
use Rattle.frames.specs.Deques.{size, set_size, place, set_place, bottom, top, push, pop, shift_up, drop_top, init_deques}
use Rattle.frames.specs.Siblings.{relink_from, eldest_to, first_from, next_after}
use Rattle.frames.specs.Steps.{add_child, spawn, remove_frame, end_frame, go_on, went_on, steal, sync, synced, fold}
use Rattle.soundness.specs.Soundness.{cleared}
use Rattle.model.specs.Record.{record_of, decode_at}
use Rattle.semantics.specs.Core.{spawn_on, end_at, upward, end_bottom, return_on, steal_on, sync_on, read_on, write_on, fold_on, step_on}
use Rattle.semantics.specs.Entries.{State, whole_nodes, start_on, start_with, run_on, TapeResult}
use Rattle.semantics.specs.Calls.{Start, after_start, tape_result}
use Rattle.starred.specs.Tapes.{spawns, returns, steals, syncs, writes, folds, folds_map, parts_with, deques_of, deques, identities, frame, live, waiting, frames_in, frames}
use Rattle.starred.specs.Quick.{quick_tape, tape_quick}
use Rattle.soundness.specs.Layout.{two_words}

-- a start, and the records of a tape
pub record Run : Type 0 where
  pub start : Start
  pub records : List (List ℕ)

-- the answer words, the state and the pool after it
pub record After : Type 0 where
  pub answers : List ℕ
  pub state : State
  pub pool : List ℕ

abbrev after_of : TapeResult → After
after_of t = record { answers = t.answers; state = t.state; pool = t.pool }

abbrev works : Run → List ℕ
works r = replicate (whole_nodes two_words r.start.pool) 5

abbrev replies : Run → List ℕ
replies r = replicate (2 * length r.records) 9

-- the parts and the pool hold other words before the start; the pool has a word more than its nodes
abbrev after : Run → After
after r = after_of (tape_result two_words (after_start two_words r.start) (joined r.records) (works r) (replies r))

abbrev runs_in : ℕ → ℕ → List ℕ → ℕ → List (List ℕ) → Run
runs_in places workers values nodes records =
    record { start = record { parts = parts_with places; workers = workers; values = values; pool = replicate (2 * nodes + 1) 7 }; records = records }

-- a table of 64 places
abbrev runs : ℕ → List ℕ → ℕ → List (List ℕ) → Run
runs workers values nodes records = runs_in 64 workers values nodes records

-- ---- nodes. R-8: "A node becomes two words: holders, then left plus 65,536 times right for inner nodes with 65,535 for none, the value for a leaf, the next
-- free node or none for a free one."

abbrev leaf : ℕ → ℕ → List ℕ
leaf holders v = holders ∷ v ∷ []

abbrev inner : ℕ → ℕ → ℕ → List ℕ
inner holders l r = holders ∷ (l + 65536 * cond (eqb r none) 65535 r) ∷ []

abbrev free_node : ℕ → List ℕ
free_node next = 0 ∷ next ∷ []

-- "words beyond the last whole node .. are never changed"
abbrev nodes : List (List ℕ) → List ℕ
nodes ns = joined ns ++ (7 ∷ [])

abbrev leaves : List ℕ → (numbers deques : List ℕ) → List Frame → (pool : List ℕ) → After
leaves as' ks ds fs ws = record { answers = as'; state = record { numbers = ks; deques = ds; frames = fs }; pool = ws }

-- numbers: workers, splitters, nodes, first free node, first free place, R-5's totals, and R-6's length of the table
abbrev numbers_in : ℕ → List ℕ → ℕ → ℕ → ℕ → ℕ → ℕ → List ℕ
numbers_in places totals workers n N node place' = workers ∷ n ∷ N ∷ node ∷ place' ∷ (totals ++ (places ∷ []))

abbrev numbers_with : List ℕ → ℕ → ℕ → ℕ → ℕ → ℕ → List ℕ
numbers_with totals workers n N node place' = numbers_in 64 totals workers n N node place'

-- "zero while Main lives"
abbrev zero_totals : List ℕ
zero_totals = 0 ∷ 0 ∷ 0 ∷ 0 ∷ []

abbrev numbers : ℕ → ℕ → ℕ → ℕ → ℕ → List ℕ
numbers workers n N node place' = numbers_with zero_totals workers n N node place'

-- ---- frame records of R-5, in which no frame is suspended and every root is node 0

abbrev viewed : ℕ → ℕ → ℕ → List ℕ → ℕ → Frame
viewed parent depth outstanding view younger = frame parent depth outstanding 0 0 0 view younger

-- a view in which only a map was folded
abbrev map_view : ℕ → ℕ → List ℕ
map_view multiplier addend = 0 ∷ none ∷ multiplier ∷ addend ∷ []

-- ---- the table

pub layout_table : List (Run × After)
layout_table =
    -- "At the start the tree is numbered root first, level by level, left to right; the rest are free in rising order.", "Main in place 0"
    (
      runs 2 (11 ∷ 12 ∷ 13 ∷ []) 8 [],
      leaves [] (numbers 2 3 8 6 1) (deques (0 ∷ []) []) (frames (live none 0 0 0 0 ∷ []))
          (nodes (inner 1 1 2 ∷ inner 1 3 4 ∷ inner 1 5 none ∷ leaf 1 11 ∷ leaf 1 12 ∷ leaf 1 13 ∷ free_node 7 ∷ free_node none ∷ [])),
    )
    -- R-2: "From the root down, nodes with one holder are altered where they are; from the first with more holders the rest of the path is
    -- new", "root first". Two splitters, Main in nodes 0 to 2:
    -- a child writes 91 to splitter 0. The root is shared: 3 and 4 are new; 0 loses a holder, and the kept sibling 2 gains one
    ∷ (
      runs 1 (11 ∷ 12 ∷ []) 7 (spawns 0 ∷ writes 0 0 91 ∷ []),
      leaves (101 ∷ 1 ∷ 106 ∷ 2 ∷ []) (numbers 1 2 7 5 2) (deques (0 ∷ 1 ∷ []) []) (frames (live none 0 1 0 0 ∷ live 0 1 0 0 3 ∷ []))
          (nodes (inner 1 1 2 ∷ leaf 1 11 ∷ leaf 2 12 ∷ inner 1 4 2 ∷ leaf 1 91 ∷ free_node 6 ∷ free_node none ∷ [])),
    )
    -- it writes 92 to splitter 1. Its root 3 has one holder and is altered where it is; the leaf 2 is shared: 5 is new, and 2 loses a holder
    ∷ (
      runs 1 (11 ∷ 12 ∷ []) 7 (spawns 0 ∷ writes 0 0 91 ∷ writes 0 1 92 ∷ []),
      leaves (101 ∷ 1 ∷ 106 ∷ 2 ∷ 106 ∷ 1 ∷ []) (numbers 1 2 7 6 2) (deques (0 ∷ 1 ∷ []) []) (frames (live none 0 1 0 0 ∷ live 0 1 0 0 3 ∷ []))
          (nodes (inner 1 1 2 ∷ leaf 1 11 ∷ leaf 1 12 ∷ inner 1 4 5 ∷ leaf 1 91 ∷ leaf 1 92 ∷ free_node none ∷ [])),
    )
    -- it writes 93 to splitter 1. No node is shared: 5 has another value
    ∷ (
      runs 1 (11 ∷ 12 ∷ []) 7 (spawns 0 ∷ writes 0 0 91 ∷ writes 0 1 92 ∷ writes 0 1 93 ∷ []),
      leaves (101 ∷ 1 ∷ 106 ∷ 2 ∷ 106 ∷ 1 ∷ 106 ∷ 1 ∷ []) (numbers 1 2 7 6 2) (deques (0 ∷ 1 ∷ []) []) (frames (live none 0 1 0 0 ∷ live 0 1 0 0 3 ∷ []))
          (nodes (inner 1 1 2 ∷ leaf 1 11 ∷ leaf 1 12 ∷ inner 1 4 5 ∷ leaf 1 91 ∷ leaf 1 93 ∷ free_node none ∷ [])),
    )
    -- "at zero the node is freed, then its left link is released, then its right": it returns, and 3, 4, 5 are freed in this order
    ∷ (
      runs 1 (11 ∷ 12 ∷ []) 7 (spawns 0 ∷ writes 0 0 91 ∷ writes 0 1 92 ∷ writes 0 1 93 ∷ returns 0 ∷ []),
      leaves (101 ∷ 1 ∷ 106 ∷ 2 ∷ 106 ∷ 1 ∷ 106 ∷ 1 ∷ 102 ∷ 0 ∷ []) (numbers 1 2 7 5 1) (deques (0 ∷ []) []) (frames (live none 0 0 0 0 ∷ []))
          (nodes (inner 1 1 2 ∷ leaf 1 11 ∷ leaf 1 12 ∷ free_node 6 ∷ free_node 3 ∷ free_node 4 ∷ free_node none ∷ [])),
    )
    -- Main writes 77 to splitter 0. Its nodes have one holder again: 1 has another value
    ∷ (
      runs 1 (11 ∷ 12 ∷ []) 7 (spawns 0 ∷ writes 0 0 91 ∷ writes 0 1 92 ∷ writes 0 1 93 ∷ returns 0 ∷ writes 0 0 77 ∷ []),
      leaves (101 ∷ 1 ∷ 106 ∷ 2 ∷ 106 ∷ 1 ∷ 106 ∷ 1 ∷ 102 ∷ 0 ∷ 106 ∷ 4 ∷ []) (numbers 1 2 7 5 1) (deques (0 ∷ []) []) (frames (live none 0 0 0 0 ∷ []))
          (nodes (inner 1 1 2 ∷ leaf 1 77 ∷ leaf 1 12 ∷ free_node 6 ∷ free_node 3 ∷ free_node 4 ∷ free_node none ∷ [])),
    )
    -- "The last node freed is the first taken.": another child writes 94 to splitter 1 and takes 5, its root, and 4
    ∷ (
      runs 1 (11 ∷ 12 ∷ []) 7 (spawns 0 ∷ writes 0 0 91 ∷ writes 0 1 92 ∷ writes 0 1 93 ∷ returns 0 ∷ writes 0 0 77 ∷ spawns 0 ∷ writes 0 1 94 ∷ []),
      leaves (101 ∷ 1 ∷ 106 ∷ 2 ∷ 106 ∷ 1 ∷ 106 ∷ 1 ∷ 102 ∷ 0 ∷ 106 ∷ 4 ∷ 101 ∷ 1 ∷ 106 ∷ 2 ∷ []) (numbers 1 2 7 3 2) (deques (0 ∷ 1 ∷ []) []) (frames (live none 0 1 0 0 ∷ live 0 1 0 0 5 ∷ []))
          (nodes (inner 1 1 2 ∷ leaf 2 77 ∷ leaf 1 12 ∷ free_node 6 ∷ leaf 1 94 ∷ inner 1 1 4 ∷ free_node none ∷ [])),
    )
    -- the same where Main writes first, on another worker: its root is 3 then, and 0 is its child's alone, whose write takes no node
    ∷ (
      runs 2 (11 ∷ 12 ∷ []) 5 (spawns 0 ∷ steals 1 0 ∷ writes 1 0 91 ∷ writes 0 0 92 ∷ []),
      leaves (101 ∷ 1 ∷ 103 ∷ 0 ∷ 106 ∷ 0 ∷ 106 ∷ 0 ∷ []) (numbers 2 2 5 none 2) (deques (1 ∷ []) (0 ∷ [])) (frames (live none 0 1 0 3 ∷ live 0 1 0 0 0 ∷ []))
          (nodes (inner 1 1 2 ∷ leaf 1 92 ∷ leaf 2 12 ∷ inner 1 4 2 ∷ leaf 1 91 ∷ [])),
    )
    -- and with three levels: a child's write to splitter 2 takes 6, 7, 8; to 1 it takes 9 and 10, for of its path only the root 6 is its own
    ∷ (
      runs 1 (11 ∷ 12 ∷ 13 ∷ []) 12 (spawns 0 ∷ writes 0 2 91 ∷ writes 0 1 92 ∷ []),
      leaves (101 ∷ 1 ∷ 106 ∷ 3 ∷ 106 ∷ 1 ∷ []) (numbers 1 3 12 11 2) (deques (0 ∷ 1 ∷ []) []) (frames (live none 0 1 0 0 ∷ live 0 1 0 0 6 ∷ []))
          (nodes (inner 1 1 2 ∷ inner 1 3 4 ∷ inner 1 5 none ∷ leaf 2 11 ∷ leaf 1 12 ∷ leaf 1 13 ∷ inner 1 9 7 ∷ inner 1 8 none ∷ leaf 1 91 ∷ inner 1 3 10 ∷ leaf 1 92 ∷ free_node none ∷ [])),
    )
    -- to 0 it takes 11, for the leaf 3 is shared, and none is free
    ∷ (
      runs 1 (11 ∷ 12 ∷ 13 ∷ []) 12 (spawns 0 ∷ writes 0 2 91 ∷ writes 0 1 92 ∷ writes 0 0 93 ∷ []),
      leaves (101 ∷ 1 ∷ 106 ∷ 3 ∷ 106 ∷ 1 ∷ 106 ∷ 0 ∷ []) (numbers 1 3 12 none 2) (deques (0 ∷ 1 ∷ []) []) (frames (live none 0 1 0 0 ∷ live 0 1 0 0 6 ∷ []))
          (nodes (inner 1 1 2 ∷ inner 1 3 4 ∷ inner 1 5 none ∷ leaf 1 11 ∷ leaf 1 12 ∷ leaf 1 13 ∷ inner 1 9 7 ∷ inner 1 8 none ∷ leaf 1 91 ∷ inner 1 11 10 ∷ leaf 1 92 ∷ leaf 1 93 ∷ [])),
    )
    -- it returns, and 6, 9, 11, 10, 7, 8 are freed in this order
    ∷ (
      runs 1 (11 ∷ 12 ∷ 13 ∷ []) 12 (spawns 0 ∷ writes 0 2 91 ∷ writes 0 1 92 ∷ writes 0 0 93 ∷ returns 0 ∷ []),
      leaves (101 ∷ 1 ∷ 106 ∷ 3 ∷ 106 ∷ 1 ∷ 106 ∷ 0 ∷ 102 ∷ 0 ∷ []) (numbers 1 3 12 8 1) (deques (0 ∷ []) []) (frames (live none 0 0 0 0 ∷ []))
          (nodes (inner 1 1 2 ∷ inner 1 3 4 ∷ inner 1 5 none ∷ leaf 1 11 ∷ leaf 1 12 ∷ leaf 1 13 ∷ free_node none ∷ free_node 10 ∷ free_node 7 ∷ free_node 6 ∷ free_node 11 ∷ free_node 9 ∷ [])),
    )
    -- "an idle worker takes the top frame of a victim with at least two frames"
    ∷ (
      runs 2 (5 ∷ []) 1 (spawns 0 ∷ spawns 0 ∷ steals 1 0 ∷ []),
      leaves (101 ∷ 1 ∷ 101 ∷ 2 ∷ 103 ∷ 0 ∷ []) (numbers 2 1 1 none 3) (deques (1 ∷ 2 ∷ []) (0 ∷ [])) (frames (live none 0 1 0 0 ∷ live 0 1 1 0 0 ∷ live 1 2 0 0 0 ∷ []))
          (nodes (leaf 3 5 ∷ [])),
    )
    -- "Frame places are taken and freed the same way": 1 is freed, then 2
    ∷ (
      runs 2 (5 ∷ []) 1 (spawns 0 ∷ steals 1 0 ∷ spawns 1 ∷ returns 0 ∷ returns 1 ∷ []),
      leaves (101 ∷ 1 ∷ 103 ∷ 0 ∷ 101 ∷ 1 ∷ 102 ∷ 1 ∷ 102 ∷ 0 ∷ []) (numbers 2 1 1 none 2) (deques [] (0 ∷ [])) (frames (live none 0 0 0 0 ∷ free 3 ∷ free 1 ∷ []))
          (nodes (leaf 1 5 ∷ [])),
    )
    -- and 2 is taken first
    ∷ (
      runs 2 (5 ∷ []) 1 (spawns 0 ∷ steals 1 0 ∷ spawns 1 ∷ returns 0 ∷ returns 1 ∷ spawns 1 ∷ []),
      leaves (101 ∷ 1 ∷ 103 ∷ 0 ∷ 101 ∷ 1 ∷ 102 ∷ 1 ∷ 102 ∷ 0 ∷ 101 ∷ 1 ∷ []) (numbers 2 1 1 none 1) (deques [] (0 ∷ 2 ∷ [])) (frames (live none 0 1 0 0 ∷ free 3 ∷ live 0 1 0 0 0 ∷ []))
          (nodes (leaf 2 5 ∷ [])),
    )
    -- "Else it is suspended, its worker goes idle"
    ∷ (
      runs 2 (5 ∷ []) 1 (spawns 0 ∷ steals 1 0 ∷ syncs 1 ∷ []),
      leaves (101 ∷ 1 ∷ 103 ∷ 0 ∷ 104 ∷ 1 ∷ []) (numbers 2 1 1 none 2) (deques (1 ∷ []) []) (frames (live none 0 1 1 0 ∷ live 0 1 0 0 0 ∷ []))
          (nodes (leaf 2 5 ∷ [])),
    )
    -- "the parent resumes on this worker, past its sync"
    ∷ (
      runs 2 (5 ∷ []) 1 (spawns 0 ∷ steals 1 0 ∷ syncs 1 ∷ returns 0 ∷ []),
      leaves (101 ∷ 1 ∷ 103 ∷ 0 ∷ 104 ∷ 1 ∷ 102 ∷ 2 ∷ []) (numbers 2 1 1 none 1) (deques (0 ∷ []) []) (frames (live none 0 0 0 0 ∷ []))
          (nodes (leaf 1 5 ∷ [])),
    )
    -- Main has returned: "no frame lives and all deques are empty", all nodes are free
    ∷ (
      runs 1 (11 ∷ 12 ∷ []) 4 (returns 0 ∷ []),
      leaves (102 ∷ 3 ∷ []) (numbers_with identities 1 2 4 2 0) (deques [] []) (frames (free 1 ∷ [])) (nodes (free_node 3 ∷ free_node 0 ∷ free_node 1 ∷ free_node none ∷ [])),
    )
    -- R-3: "A return with a live child now suspends the frame as returning ..; its worker goes idle, and its tree is held." Main is in place 0 and
    -- has the nodes 0 to 2, its child is in 1 and has 3 and 4, and its child in 2 has 5 and 6. The child waits
    ∷ (
      runs 3 (11 ∷ 12 ∷ []) 9 (spawns 0 ∷ steals 1 0 ∷ writes 0 0 91 ∷ spawns 0 ∷ steals 2 0 ∷ writes 0 1 92 ∷ returns 2 ∷ []),
      leaves (101 ∷ 1 ∷ 103 ∷ 0 ∷ 106 ∷ 4 ∷ 101 ∷ 2 ∷ 103 ∷ 1 ∷ 106 ∷ 2 ∷ 102 ∷ 4 ∷ []) (numbers 3 2 9 7 3) (deques (2 ∷ []) (0 ∷ [])) (frames (live none 0 1 0 0 ∷ waiting 0 1 1 3 ∷ live 1 2 0 0 5 ∷ []))
          (nodes (inner 1 1 2 ∷ leaf 1 11 ∷ leaf 2 12 ∷ inner 1 4 2 ∷ leaf 2 91 ∷ inner 1 4 6 ∷ leaf 1 92 ∷ free_node 8 ∷ free_node none ∷ [])),
    )
    -- "When its last child ends, it ends too on that child's worker": the frame in 2 ends, and the nodes 5, 6 are freed, then the one in 1 and the
    -- nodes 3, 4. Main runs elsewhere: 1
    ∷ (
      runs 3 (11 ∷ 12 ∷ []) 9 (spawns 0 ∷ steals 1 0 ∷ writes 0 0 91 ∷ spawns 0 ∷ steals 2 0 ∷ writes 0 1 92 ∷ returns 2 ∷ returns 0 ∷ []),
      leaves (101 ∷ 1 ∷ 103 ∷ 0 ∷ 106 ∷ 4 ∷ 101 ∷ 2 ∷ 103 ∷ 1 ∷ 106 ∷ 2 ∷ 102 ∷ 4 ∷ 102 ∷ 1 ∷ []) (numbers 3 2 9 4 1) (deques [] (0 ∷ [])) (frames (live none 0 0 0 0 ∷ free 2 ∷ free 3 ∷ []))
          (nodes (inner 1 1 2 ∷ leaf 1 11 ∷ leaf 1 12 ∷ free_node 6 ∷ free_node 3 ∷ free_node 7 ∷ free_node 5 ∷ free_node 8 ∷ free_node none ∷ [])),
    )
    -- the place freed last is taken first, 1, and so are the nodes 4 and 3
    ∷ (
      runs 3 (11 ∷ 12 ∷ []) 9 (spawns 0 ∷ steals 1 0 ∷ writes 0 0 91 ∷ spawns 0 ∷ steals 2 0 ∷ writes 0 1 92 ∷ returns 2 ∷ returns 0 ∷ spawns 1 ∷ writes 1 0 93 ∷ []),
      leaves (101 ∷ 1 ∷ 103 ∷ 0 ∷ 106 ∷ 4 ∷ 101 ∷ 2 ∷ 103 ∷ 1 ∷ 106 ∷ 2 ∷ 102 ∷ 4 ∷ 102 ∷ 1 ∷ 101 ∷ 1 ∷ 106 ∷ 4 ∷ []) (numbers 3 2 9 6 2) (deques [] (0 ∷ 1 ∷ []))
          (frames (live none 0 1 0 0 ∷ live 0 1 0 0 4 ∷ free 3 ∷ []))
          (nodes (inner 1 1 2 ∷ leaf 1 11 ∷ leaf 2 12 ∷ leaf 1 93 ∷ inner 1 3 2 ∷ free_node 7 ∷ free_node 5 ∷ free_node 8 ∷ free_node none ∷ [])),
    )
    -- the same where Main waits at its sync: it resumes on that worker, and its record has no 1 then
    ∷ (
      runs 3 (11 ∷ 12 ∷ []) 9 (spawns 0 ∷ steals 1 0 ∷ writes 0 0 91 ∷ spawns 0 ∷ steals 2 0 ∷ writes 0 1 92 ∷ returns 2 ∷ syncs 1 ∷ returns 0 ∷ []),
      leaves (101 ∷ 1 ∷ 103 ∷ 0 ∷ 106 ∷ 4 ∷ 101 ∷ 2 ∷ 103 ∷ 1 ∷ 106 ∷ 2 ∷ 102 ∷ 4 ∷ 104 ∷ 1 ∷ 102 ∷ 2 ∷ []) (numbers 3 2 9 4 1) (deques (0 ∷ []) []) (frames (live none 0 0 0 0 ∷ []))
          (nodes (inner 1 1 2 ∷ leaf 1 11 ∷ leaf 1 12 ∷ free_node 6 ∷ free_node 3 ∷ free_node 7 ∷ free_node 5 ∷ free_node 8 ∷ free_node none ∷ [])),
    )
    -- where Main returns: it waits
    ∷ (
      runs 3 (11 ∷ 12 ∷ []) 9 (spawns 0 ∷ steals 1 0 ∷ writes 0 0 91 ∷ spawns 0 ∷ steals 2 0 ∷ writes 0 1 92 ∷ returns 2 ∷ returns 1 ∷ []),
      leaves (101 ∷ 1 ∷ 103 ∷ 0 ∷ 106 ∷ 4 ∷ 101 ∷ 2 ∷ 103 ∷ 1 ∷ 106 ∷ 2 ∷ 102 ∷ 4 ∷ 102 ∷ 4 ∷ []) (numbers 3 2 9 7 3) (deques (2 ∷ []) []) (frames (waiting none 0 1 0 ∷ waiting 0 1 1 3 ∷ live 1 2 0 0 5 ∷ []))
          (nodes (inner 1 1 2 ∷ leaf 1 11 ∷ leaf 2 12 ∷ inner 1 4 2 ∷ leaf 2 91 ∷ inner 1 4 6 ∷ leaf 1 92 ∷ free_node 8 ∷ free_node none ∷ [])),
    )
    -- "and so on upward": one return ends all three, Main last, and every node and place is free
    ∷ (
      runs 3 (11 ∷ 12 ∷ []) 9 (spawns 0 ∷ steals 1 0 ∷ writes 0 0 91 ∷ spawns 0 ∷ steals 2 0 ∷ writes 0 1 92 ∷ returns 2 ∷ returns 1 ∷ returns 0 ∷ []),
      leaves (101 ∷ 1 ∷ 103 ∷ 0 ∷ 106 ∷ 4 ∷ 101 ∷ 2 ∷ 103 ∷ 1 ∷ 106 ∷ 2 ∷ 102 ∷ 4 ∷ 102 ∷ 4 ∷ 102 ∷ 3 ∷ []) (numbers_with identities 3 2 9 2 0) (deques [] []) (frames (free 1 ∷ free 2 ∷ free 3 ∷ []))
          (nodes (free_node 4 ∷ free_node 0 ∷ free_node 1 ∷ free_node 6 ∷ free_node 3 ∷ free_node 7 ∷ free_node 5 ∷ free_node 8 ∷ free_node none ∷ [])),
    )
    -- R-5: "Main begins with the identities"; folds of each reducer
    ∷ (
      runs 1 (5 ∷ []) 1 (folds_map 0 2 1 ∷ folds 0 0 10 ∷ folds 0 1 9 ∷ []),
      leaves (107 ∷ 0 ∷ 107 ∷ 0 ∷ 107 ∷ 0 ∷ []) (numbers 1 1 1 none 1) (deques_of ((0 ∷ []) ∷ []))
          (frames (viewed none 0 0 (10 ∷ 9 ∷ 2 ∷ 1 ∷ []) none ∷ []))
          (nodes (leaf 1 5 ∷ [])),
    )
    -- "the child inherits, the continuation begins with the identity"
    ∷ (
      runs 1 (5 ∷ []) 1 (folds_map 0 2 1 ∷ folds 0 0 10 ∷ folds 0 1 9 ∷ spawns 0 ∷ []),
      leaves (107 ∷ 0 ∷ 107 ∷ 0 ∷ 107 ∷ 0 ∷ 101 ∷ 1 ∷ []) (numbers 1 1 1 none 2) (deques_of ((0 ∷ 1 ∷ []) ∷ []))
          (frames (viewed none 0 1 identities none ∷ viewed 0 1 0 (10 ∷ 9 ∷ 2 ∷ 1 ∷ []) none ∷ []))
          (nodes (leaf 2 5 ∷ [])),
    )
    -- the child folds 3x after it
    ∷ (
      runs 1 (5 ∷ []) 1 (folds_map 0 2 1 ∷ folds 0 0 10 ∷ folds 0 1 9 ∷ spawns 0 ∷ folds_map 0 3 0 ∷ []),
      leaves (107 ∷ 0 ∷ 107 ∷ 0 ∷ 107 ∷ 0 ∷ 101 ∷ 1 ∷ 107 ∷ 0 ∷ []) (numbers 1 1 1 none 2) (deques_of ((0 ∷ 1 ∷ []) ∷ []))
          (frames (viewed none 0 1 identities none ∷ viewed 0 1 0 (10 ∷ 9 ∷ 6 ∷ 3 ∷ []) none ∷ []))
          (nodes (leaf 2 5 ∷ [])),
    )
    -- it ends, and its view "joins on the left of the next one's", Main's
    ∷ (
      runs 1 (5 ∷ []) 1 (folds_map 0 2 1 ∷ folds 0 0 10 ∷ folds 0 1 9 ∷ spawns 0 ∷ folds_map 0 3 0 ∷ folds_map 0 1 4 ∷ returns 0 ∷ folds_map 0 5 0 ∷ []),
      leaves (107 ∷ 0 ∷ 107 ∷ 0 ∷ 107 ∷ 0 ∷ 101 ∷ 1 ∷ 107 ∷ 0 ∷ 107 ∷ 0 ∷ 102 ∷ 0 ∷ 107 ∷ 0 ∷ []) (numbers 1 1 1 none 1) (deques_of ((0 ∷ []) ∷ []))
          (frames (viewed none 0 0 (10 ∷ 9 ∷ 30 ∷ 35 ∷ []) none ∷ []))
          (nodes (leaf 1 5 ∷ [])),
    )
    -- "the next younger live sibling or none": Main has three children, in the places 1, 2, 3
    ∷ (
      runs 4 (5 ∷ []) 1 (folds_map 0 2 1 ∷ spawns 0 ∷ steals 1 0 ∷ folds_map 1 3 0 ∷ spawns 1 ∷ steals 2 1 ∷ folds_map 2 1 5 ∷ spawns 2 ∷ steals 3 2 ∷ folds_map 3 7 0 ∷ []),
      leaves (107 ∷ 0 ∷ 101 ∷ 1 ∷ 103 ∷ 0 ∷ 107 ∷ 0 ∷ 101 ∷ 1 ∷ 103 ∷ 0 ∷ 107 ∷ 0 ∷ 101 ∷ 1 ∷ 103 ∷ 0 ∷ 107 ∷ 0 ∷ []) (numbers 4 1 1 none 4) (deques_of ((1 ∷ []) ∷ (2 ∷ []) ∷ (3 ∷ []) ∷ (0 ∷ []) ∷ []))
          (frames (viewed none 0 3 (map_view 7 0) none ∷ viewed 0 1 0 (map_view 2 1) 2 ∷ viewed 0 1 0 (map_view 3 0) 3 ∷ viewed 0 1 0 (map_view 1 5) none ∷ []))
          (nodes (leaf 4 5 ∷ [])),
    )
    -- the second ends: the third, next in the order, has its view on the left, and the first names the third
    ∷ (
      runs 4 (5 ∷ []) 1 (folds_map 0 2 1 ∷ spawns 0 ∷ steals 1 0 ∷ folds_map 1 3 0 ∷ spawns 1 ∷ steals 2 1 ∷ folds_map 2 1 5 ∷ spawns 2 ∷ steals 3 2 ∷ folds_map 3 7 0 ∷ folds_map 1 11 3 ∷ returns 1 ∷ []),
      leaves (107 ∷ 0 ∷ 101 ∷ 1 ∷ 103 ∷ 0 ∷ 107 ∷ 0 ∷ 101 ∷ 1 ∷ 103 ∷ 0 ∷ 107 ∷ 0 ∷ 101 ∷ 1 ∷ 103 ∷ 0 ∷ 107 ∷ 0 ∷ 107 ∷ 0 ∷ 102 ∷ 1 ∷ []) (numbers 4 1 1 none 2) (deques_of ((1 ∷ []) ∷ [] ∷ (3 ∷ []) ∷ (0 ∷ []) ∷ []))
          (frames (viewed none 0 2 (map_view 7 0) none ∷ viewed 0 1 0 (map_view 2 1) 3 ∷ free 4 ∷ viewed 0 1 0 (map_view 33 8) none ∷ []))
          (nodes (leaf 3 5 ∷ [])),
    )
    -- Main spawns another, in the place 2: it is the youngest
    ∷ (
      runs 4 (5 ∷ []) 1 (folds_map 0 2 1 ∷ spawns 0 ∷ steals 1 0 ∷ folds_map 1 3 0 ∷ spawns 1 ∷ steals 2 1 ∷ folds_map 2 1 5 ∷ spawns 2 ∷ steals 3 2 ∷ folds_map 3 7 0 ∷ folds_map 1 11 3 ∷ returns 1 ∷ spawns 3 ∷ []),
      leaves (107 ∷ 0 ∷ 101 ∷ 1 ∷ 103 ∷ 0 ∷ 107 ∷ 0 ∷ 101 ∷ 1 ∷ 103 ∷ 0 ∷ 107 ∷ 0 ∷ 101 ∷ 1 ∷ 103 ∷ 0 ∷ 107 ∷ 0 ∷ 107 ∷ 0 ∷ 102 ∷ 1 ∷ 101 ∷ 1 ∷ []) (numbers 4 1 1 none 4) (deques_of ((1 ∷ []) ∷ [] ∷ (3 ∷ []) ∷ (0 ∷ 2 ∷ []) ∷ []))
          (frames (viewed none 0 3 identities none ∷ viewed 0 1 0 (map_view 2 1) 3 ∷ viewed 0 1 0 (map_view 7 0) none ∷ viewed 0 1 0 (map_view 33 8) 2 ∷ []))
          (nodes (leaf 4 5 ∷ [])),
    )
    -- the first ends instead: its view joins the second's
    ∷ (
      runs 4 (5 ∷ []) 1 (folds_map 0 2 1 ∷ spawns 0 ∷ steals 1 0 ∷ folds_map 1 3 0 ∷ spawns 1 ∷ steals 2 1 ∷ folds_map 2 1 5 ∷ spawns 2 ∷ steals 3 2 ∷ folds_map 3 7 0 ∷ folds_map 1 11 3 ∷ returns 0 ∷ []),
      leaves (107 ∷ 0 ∷ 101 ∷ 1 ∷ 103 ∷ 0 ∷ 107 ∷ 0 ∷ 101 ∷ 1 ∷ 103 ∷ 0 ∷ 107 ∷ 0 ∷ 101 ∷ 1 ∷ 103 ∷ 0 ∷ 107 ∷ 0 ∷ 107 ∷ 0 ∷ 102 ∷ 1 ∷ []) (numbers 4 1 1 none 1) (deques_of ([] ∷ (2 ∷ []) ∷ (3 ∷ []) ∷ (0 ∷ []) ∷ []))
          (frames (viewed none 0 2 (map_view 7 0) none ∷ free 4 ∷ viewed 0 1 0 (map_view 66 36) 3 ∷ viewed 0 1 0 (map_view 1 5) none ∷ []))
          (nodes (leaf 3 5 ∷ [])),
    )
    -- the third: it has no younger sibling, and next is Main; the second names none
    ∷ (
      runs 4 (5 ∷ []) 1 (folds_map 0 2 1 ∷ spawns 0 ∷ steals 1 0 ∷ folds_map 1 3 0 ∷ spawns 1 ∷ steals 2 1 ∷ folds_map 2 1 5 ∷ spawns 2 ∷ steals 3 2 ∷ folds_map 3 7 0 ∷ folds_map 1 11 3 ∷ returns 2 ∷ []),
      leaves (107 ∷ 0 ∷ 101 ∷ 1 ∷ 103 ∷ 0 ∷ 107 ∷ 0 ∷ 101 ∷ 1 ∷ 103 ∷ 0 ∷ 107 ∷ 0 ∷ 101 ∷ 1 ∷ 103 ∷ 0 ∷ 107 ∷ 0 ∷ 107 ∷ 0 ∷ 102 ∷ 1 ∷ []) (numbers 4 1 1 none 3) (deques_of ((1 ∷ []) ∷ (2 ∷ []) ∷ [] ∷ (0 ∷ []) ∷ []))
          (frames (viewed none 0 2 (map_view 7 35) none ∷ viewed 0 1 0 (map_view 2 1) 2 ∷ viewed 0 1 0 (map_view 33 3) none ∷ []))
          (nodes (leaf 3 5 ∷ [])),
    )
    -- the second has two children, in the places 4 and 5
    ∷ (
      runs 5 (5 ∷ []) 1 (folds_map 0 2 1 ∷ spawns 0 ∷ steals 1 0 ∷ folds_map 1 3 0 ∷ spawns 1 ∷ steals 2 1 ∷ folds_map 2 1 5 ∷ spawns 2 ∷ steals 3 2 ∷ folds_map 3 7 0 ∷ spawns 1 ∷ steals 4 1 ∷ spawns 4 ∷ folds_map 4 13 1 ∷ []),
      leaves (107 ∷ 0 ∷ 101 ∷ 1 ∷ 103 ∷ 0 ∷ 107 ∷ 0 ∷ 101 ∷ 1 ∷ 103 ∷ 0 ∷ 107 ∷ 0 ∷ 101 ∷ 1 ∷ 103 ∷ 0 ∷ 107 ∷ 0 ∷ 101 ∷ 2 ∷ 103 ∷ 1 ∷ 101 ∷ 2 ∷ 107 ∷ 0 ∷ []) (numbers 5 1 1 none 6) (deques_of ((1 ∷ []) ∷ (4 ∷ []) ∷ (3 ∷ []) ∷ (0 ∷ []) ∷ (2 ∷ 5 ∷ []) ∷ []))
          (frames (viewed none 0 3 (map_view 7 0) none ∷ viewed 0 1 0 (map_view 2 1) 2 ∷ viewed 0 1 2 identities 3 ∷ viewed 0 1 0 (map_view 1 5) none ∷ viewed 2 2 0 (map_view 3 0) 5 ∷ viewed 2 2 0 (map_view 13 1) none ∷ []))
          (nodes (leaf 6 5 ∷ [])),
    )
    -- "siblings eldest first and each, after all below it": the first ends, and next is the frame in the place 4
    ∷ (
      runs 5 (5 ∷ []) 1 (folds_map 0 2 1 ∷ spawns 0 ∷ steals 1 0 ∷ folds_map 1 3 0 ∷ spawns 1 ∷ steals 2 1 ∷ folds_map 2 1 5 ∷ spawns 2 ∷ steals 3 2 ∷ folds_map 3 7 0 ∷ spawns 1 ∷ steals 4 1 ∷ spawns 4 ∷ folds_map 4 13 1 ∷ returns 0 ∷ []),
      leaves (107 ∷ 0 ∷ 101 ∷ 1 ∷ 103 ∷ 0 ∷ 107 ∷ 0 ∷ 101 ∷ 1 ∷ 103 ∷ 0 ∷ 107 ∷ 0 ∷ 101 ∷ 1 ∷ 103 ∷ 0 ∷ 107 ∷ 0 ∷ 101 ∷ 2 ∷ 103 ∷ 1 ∷ 101 ∷ 2 ∷ 107 ∷ 0 ∷ 102 ∷ 1 ∷ []) (numbers 5 1 1 none 1) (deques_of ([] ∷ (4 ∷ []) ∷ (3 ∷ []) ∷ (0 ∷ []) ∷ (2 ∷ 5 ∷ []) ∷ []))
          (frames (viewed none 0 2 (map_view 7 0) none ∷ free 6 ∷ viewed 0 1 2 identities 3 ∷ viewed 0 1 0 (map_view 1 5) none ∷ viewed 2 2 0 (map_view 6 3) 5 ∷ viewed 2 2 0 (map_view 13 1) none ∷ []))
          (nodes (leaf 5 5 ∷ [])),
    )
    -- Main ends: "the four totals, in that order, after the first free frame place"
    ∷ (
      runs 1 (5 ∷ []) 1 (folds_map 0 2 1 ∷ folds 0 0 10 ∷ folds 0 1 9 ∷ returns 0 ∷ []),
      leaves (107 ∷ 0 ∷ 107 ∷ 0 ∷ 107 ∷ 0 ∷ 102 ∷ 3 ∷ []) (numbers_with (10 ∷ 9 ∷ 2 ∷ 1 ∷ []) 1 1 1 0 0) (deques [] []) (frames (free 1 ∷ [])) (nodes (free_node none ∷ [])),
    )
    -- R-6: "a slice of frame records, changed in its own memory". One place: none is free while Main lives, and Main's is then
    ∷ (runs_in 1 1 (5 ∷ []) 1 [], leaves [] (numbers_in 1 zero_totals 1 1 1 none none) (deques (0 ∷ []) []) (live none 0 0 0 0 ∷ []) (nodes (leaf 1 5 ∷ [])))
    ∷ (runs_in 1 1 (5 ∷ []) 1 (returns 0 ∷ []), leaves (102 ∷ 3 ∷ []) (numbers_in 1 identities 1 1 1 0 0) (deques [] []) (free none ∷ []) (nodes (free_node none ∷ [])))
    -- two: a child takes the last one, and frees it
    ∷ (runs_in 2 1 (5 ∷ []) 1 [], leaves [] (numbers_in 2 zero_totals 1 1 1 none 1) (deques (0 ∷ []) []) (live none 0 0 0 0 ∷ free none ∷ []) (nodes (leaf 1 5 ∷ [])))
    ∷ (
      runs_in 2 1 (5 ∷ []) 1 (spawns 0 ∷ []),
      leaves (101 ∷ 1 ∷ []) (numbers_in 2 zero_totals 1 1 1 none none) (deques (0 ∷ 1 ∷ []) []) (live none 0 1 0 0 ∷ live 0 1 0 0 0 ∷ []) (nodes (leaf 2 5 ∷ [])),
    )
    ∷ (
      runs_in 2 1 (5 ∷ []) 1 (spawns 0 ∷ returns 0 ∷ []),
      leaves (101 ∷ 1 ∷ 102 ∷ 0 ∷ []) (numbers_in 2 zero_totals 1 1 1 none 1) (deques (0 ∷ []) []) (live none 0 0 0 0 ∷ free none ∷ []) (nodes (leaf 1 5 ∷ [])),
    )
    -- the spawn that 13 refuses leaves "every frame record as it was"
    ∷ (
      runs_in 2 1 (5 ∷ []) 1 (folds 0 0 4 ∷ spawns 0 ∷ folds 0 1 6 ∷ spawns 0 ∷ []),
      leaves (107 ∷ 0 ∷ 101 ∷ 1 ∷ 107 ∷ 0 ∷ 13 ∷ 0 ∷ []) (numbers_in 2 zero_totals 1 1 1 none none) (deques (0 ∷ 1 ∷ []) []) (viewed none 0 1 identities none ∷ viewed 0 1 0 (4 ∷ 6 ∷ 1 ∷ 0 ∷ []) none ∷ [])
          (nodes (leaf 2 5 ∷ [])),
    )
    -- 256: the last place links to none
    ∷ (
      runs_in 256 1 (5 ∷ []) 1 (spawns 0 ∷ []),
      leaves (101 ∷ 1 ∷ []) (numbers_in 256 zero_totals 1 1 1 none 2) (deques (0 ∷ 1 ∷ []) []) (frames_in 256 (live none 0 1 0 0 ∷ live 0 1 0 0 0 ∷ [])) (nodes (leaf 2 5 ∷ [])),
    )
    ∷ []

-- without the check
quickly : map (λ (row : Run × After). after_of (quick_tape row.0.start (joined row.0.records) (works row.0) (replies row.0))) layout_table ≡ map (λ (row : Run × After). row.1) layout_table
unfolding layout_table start_on start_with run_on record_of decode_at spawn_on end_at upward end_bottom return_on steal_on sync_on read_on write_on fold_on step_on add_child spawn remove_frame end_frame go_on went_on steal sync synced fold relink_from eldest_to first_from next_after fold_view shift_up drop_top pop top bottom side child sibling bit leaf_of read_at retain release set_refcount path_node copy_path set_value set_link renew first_shared rest write_from write init_pool init_free init_leaves init_inner init_level set_node height width tree_nodes init_deques init_frames init_places push set_size set_place size place set_frame frame_at cleared refcount left right content links set_content
quickly = refl

pub layout : map (λ (row : Run × After). after row.0) layout_table ≡ map (λ (row : Run × After). row.1) layout_table
layout = (λ i. map (λ (row : Run × After). after_of (tape_quick row.0.start (joined row.0.records) (works row.0) (replies row.0) i)) layout_table) ∙ quickly
