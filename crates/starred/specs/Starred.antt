-- Document 01's starred edges as document 02 changes them, through the start and the tape: one table, one theorem.
use Rattle.std.specs.Prelude.{◌≡◌, refl, cond, List, [], ◌∷◌, ◌++◌, map, ℕ, ◌+◌, ◌*◌, length, replicate, eqb}
use Rattle.std.proofs.Common.{◌∙◌}
use Rattle.words.specs.Basics.{joined}
use Rattle.sizes.specs.Sizes.{height, width, tree_nodes, bit}
use Rattle.pool.specs.Pool.{side}
use Rattle.packed.specs.Pool.{refcount, links, content, left, right, set_node, set_refcount, child, sibling, leaf_of, read_at, retain, release, path_node, copy_path, set_value, set_link, renew, first_shared, rest, write_from, write, init_level, init_inner, init_leaves, init_free, init_pool, set_content}
use Rattle.reducers.specs.Reducers.{fold_view}
use Rattle.frames.specs.Frames.{frame_at, set_frame, init_places, init_frames}
use Rattle.frames.specs.Deques.{size, set_size, place, set_place, bottom, top, push, pop, shift_up, drop_top, init_deques}
use Rattle.frames.specs.Siblings.{relink_from, eldest_to, first_from, next_after}
use Rattle.frames.specs.Steps.{add_child, spawn, remove_frame, end_frame, go_on, went_on, steal, sync, synced, fold}
use Rattle.soundness.specs.Soundness.{cleared}
use Rattle.model.specs.Record.{record_of, decode_at}
use Rattle.semantics.specs.Core.{spawn_on, end_at, upward, end_bottom, return_on, steal_on, sync_on, read_on, write_on, fold_on, step_on}
use Rattle.semantics.specs.Entries.{totals_of, start_on, start_with, run_on, TapeResult}
use Rattle.semantics.specs.Calls.{Start, start_result, after_start, tape_result}
use Rattle.starred.specs.Tapes.{bytes, spawns, returns, steals, syncs, reads, writes, folds, folds_map, folds_largest, parts_with, any_pool, five, identities}
use Rattle.starred.specs.Quick.{quick_tape, tape_quick}
use Rattle.soundness.specs.Layout.{two_words}

-- a start, with a frame table of so many places, then a tape
pub record Case : Type 0 where
  pub places : ℕ
  pub workers : ℕ
  pub values : List ℕ
  pub nodes : ℕ
  pub records : List (List ℕ)

-- the refusal of the start or of the tape, or 0; the answer words; the work slice and R-5's totals afterwards
pub record Outcome : Type 0 where
  pub refused : ℕ
  pub answers : List ℕ
  pub work : List ℕ
  pub totals : List ℕ

abbrev pub outcome_of : TapeResult → Outcome
outcome_of t = record { refused = t.result; answers = t.answers; work = t.work; totals = totals_of t.state }

-- refused whole at the start
abbrev pub refused_by : ℕ → Outcome
refused_by k = record { refused = k; answers = []; work = []; totals = [] }

abbrev start_of : Case → Start
start_of k = record { parts = parts_with k.places; workers = k.workers; values = k.values; pool = any_pool k.nodes }

abbrev works : Case → List ℕ
works k = replicate (k.nodes + 1) 5

abbrev replies : Case → List ℕ
replies k = replicate (2 * length k.records + 2) 9

-- a start that is refused ends it
abbrev told : Case → TapeResult → Outcome
told k t = let o : Outcome = outcome_of t in cond (eqb (start_result two_words (start_of k)).result 0) o (refused_by (start_result two_words (start_of k)).result)

-- the tape is lent two answer words more than it needs, and one work word more
abbrev pub outcome : Case → Outcome
outcome k = told k (tape_result two_words (after_start two_words (start_of k)) (joined k.records) (works k) (replies k))

-- ---- the table

abbrev starts_in : ℕ → ℕ → List ℕ → ℕ → List (List ℕ) → Case
starts_in ps w vs n rs = record { places = ps; workers = w; values = vs; nodes = n; records = rs }

-- 64 places
abbrev starts : ℕ → List ℕ → ℕ → List (List ℕ) → Case
starts w vs n rs = starts_in 64 w vs n rs

-- the answer words, and after them the two that were lent besides; the work words zero, and after them the one besides; the totals
abbrev ends : ℕ → List ℕ → List ℕ → Outcome
ends nodes as' ts = record { refused = 0; answers = as' ++ (9 ∷ 9 ∷ []); work = replicate nodes 0 ++ (5 ∷ []); totals = ts }

-- R-5: the totals are "zero while Main lives"
abbrev answered : ℕ → List ℕ → Outcome
answered nodes as' = ends nodes as' (0 ∷ 0 ∷ 0 ∷ 0 ∷ [])

-- Main has returned, and nothing was folded
abbrev returned : ℕ → List ℕ → Outcome
returned nodes as' = ends nodes as' identities

pub table : List (Case × Outcome)
table =
    -- "The tape above."; R-5: it "gains `reduced 0 4294967295 1 0`"
    (
      starts 2 five 20 (spawns 0 ∷ steals 1 0 ∷ writes 1 4 99 ∷ reads 0 4 ∷ syncs 1 ∷ reads 1 4 ∷ returns 0 ∷ reads 0 4 ∷ returns 0 ∷ []),
      returned 20 (101 ∷ 1 ∷ 103 ∷ 0 ∷ 106 ∷ 5 ∷ 105 ∷ 50 ∷ 104 ∷ 1 ∷ 10 ∷ 0 ∷ 102 ∷ 2 ∷ 105 ∷ 99 ∷ 102 ∷ 3 ∷ []),
    )
    -- R-2: "n 5 with 11 nodes now accepts a first write, 106 0; so do one node with n 1 and 14 nodes with n 5, with 106 0 and 106 3."
    ∷ (starts 1 five 11 (writes 0 0 5 ∷ []), answered 11 (106 ∷ 0 ∷ []))
    ∷ (starts 1 (7 ∷ []) 1 (writes 0 0 5 ∷ []), answered 1 (106 ∷ 0 ∷ []))
    ∷ (starts 1 five 14 (writes 0 0 5 ∷ []), answered 14 (106 ∷ 3 ∷ []))
    -- the others of these edges stay. n 1, "two nodes: accepted, 106 1."
    ∷ (starts 1 (7 ∷ []) 2 (writes 0 0 5 ∷ []), answered 2 (106 ∷ 1 ∷ []))
    -- "n 5, 10 nodes: refused 3"; "15: 106 4."
    ∷ (starts 1 five 10 (writes 0 0 5 ∷ []), refused_by 3)
    ∷ (starts 1 five 15 (writes 0 0 5 ∷ []), answered 15 (106 ∷ 4 ∷ []))
    -- "n 0 and n 257: refused 1."
    ∷ (starts 1 [] 20 [], refused_by 1)
    ∷ (starts 1 (replicate 257 0) 20 [], refused_by 1)
    -- "Empty tape: no answers, only the work slice changed." (Theory.EmptyTape shows it for every state)
    ∷ (starts 2 five 20 [], answered 20 [])
    -- "Stealing from a deque of one: 12."
    ∷ (starts 2 five 20 (steals 1 0 ∷ []), answered 20 (12 ∷ 0 ∷ []))
    -- "Return by Main while its child runs elsewhere": R-3, "14 no longer occurs; its starred edge becomes 102 4."
    ∷ (starts 2 five 20 (spawns 0 ∷ steals 1 0 ∷ returns 1 ∷ []), answered 20 (101 ∷ 1 ∷ 103 ∷ 0 ∷ 102 ∷ 4 ∷ []))
    -- R-2: "A write pays only for what is shared." A frame that shares with none writes where its nodes are, however often
    ∷ (
      starts 1 five 11 (writes 0 4 61 ∷ writes 0 4 62 ∷ writes 0 0 63 ∷ reads 0 4 ∷ reads 0 0 ∷ reads 0 1 ∷ []),
      answered 11 (106 ∷ 0 ∷ 106 ∷ 0 ∷ 106 ∷ 0 ∷ 105 ∷ 62 ∷ 105 ∷ 63 ∷ 105 ∷ 20 ∷ []),
    )
    -- after a spawn the child's first write takes a path, 4 nodes, its second none; Main's takes none then, for it has the old path alone
    ∷ (
      starts 2 five 15 (spawns 0 ∷ steals 1 0 ∷ writes 0 4 61 ∷ writes 0 4 62 ∷ reads 0 4 ∷ reads 1 4 ∷ writes 1 4 71 ∷ reads 1 4 ∷ reads 0 4 ∷ []),
      answered 15 (101 ∷ 1 ∷ 103 ∷ 0 ∷ 106 ∷ 0 ∷ 106 ∷ 0 ∷ 105 ∷ 62 ∷ 105 ∷ 50 ∷ 106 ∷ 0 ∷ 105 ∷ 71 ∷ 105 ∷ 62 ∷ []),
    )
    -- the same with Main first; when the child returns, the 2 nodes that it held alone are free
    ∷ (
      starts 2 (7 ∷ 8 ∷ []) 5 (spawns 0 ∷ steals 1 0 ∷ writes 1 1 61 ∷ writes 1 1 62 ∷ reads 1 1 ∷ reads 0 1 ∷ writes 0 1 71 ∷ reads 0 1 ∷ reads 1 1 ∷ returns 0 ∷ writes 1 1 63 ∷ []),
      answered 5 (101 ∷ 1 ∷ 103 ∷ 0 ∷ 106 ∷ 0 ∷ 106 ∷ 0 ∷ 105 ∷ 62 ∷ 105 ∷ 8 ∷ 106 ∷ 0 ∷ 105 ∷ 71 ∷ 105 ∷ 62 ∷ 102 ∷ 1 ∷ 106 ∷ 2 ∷ []),
    )
    -- the child's writes to 4, 0 and 1 take 4 nodes, 3 and 1: what its paths still share with Main's; Main's write to 0 takes none
    ∷ (
      starts 2 five 20 (spawns 0 ∷ steals 1 0 ∷ writes 0 4 61 ∷ writes 0 0 62 ∷ writes 0 1 63 ∷ writes 1 0 71 ∷ reads 0 0 ∷ reads 1 0 ∷ reads 1 4 ∷ []),
      answered 20 (101 ∷ 1 ∷ 103 ∷ 0 ∷ 106 ∷ 5 ∷ 106 ∷ 2 ∷ 106 ∷ 1 ∷ 106 ∷ 1 ∷ 105 ∷ 62 ∷ 105 ∷ 71 ∷ 105 ∷ 50 ∷ []),
    )
    -- R-3: "A return with a live child now suspends the frame as returning and gives outcome 4; its worker goes idle, and its tree is held.":
    -- Main waits, 9 is not given, and the child's write leaves 5 nodes free as before, for Main's 4 are held. "When its last child ends, it
    -- ends too": "Main has returned once it has ended, with outcome 3, and not while it waits."
    ∷ (
      starts 2 five 20 (spawns 0 ∷ steals 1 0 ∷ writes 1 4 99 ∷ returns 1 ∷ reads 1 4 ∷ steals 1 0 ∷ reads 0 4 ∷ writes 0 4 61 ∷ returns 0 ∷ reads 0 4 ∷ []),
      returned 20 (101 ∷ 1 ∷ 103 ∷ 0 ∷ 106 ∷ 5 ∷ 102 ∷ 4 ∷ 10 ∷ 0 ∷ 12 ∷ 0 ∷ 105 ∷ 50 ∷ 106 ∷ 5 ∷ 102 ∷ 3 ∷ 9 ∷ 0 ∷ []),
    )
    -- "the answer shows where that stopped: 1, 2 or 3". 1: Main's child waits, and ends with its own; Main goes on elsewhere. Its child's 4 nodes
    -- are held while it waits, and free then
    ∷ (
      starts 3 five 20 (spawns 0 ∷ steals 1 0 ∷ writes 0 4 61 ∷ spawns 0 ∷ steals 2 0 ∷ returns 2 ∷ writes 1 4 71 ∷ returns 0 ∷ writes 1 4 72 ∷ reads 0 4 ∷ returns 1 ∷ []),
      returned 20 (101 ∷ 1 ∷ 103 ∷ 0 ∷ 106 ∷ 5 ∷ 101 ∷ 2 ∷ 103 ∷ 1 ∷ 102 ∷ 4 ∷ 106 ∷ 5 ∷ 102 ∷ 1 ∷ 106 ∷ 9 ∷ 10 ∷ 0 ∷ 102 ∷ 3 ∷ []),
    )
    -- 2: the same with Main at its sync, which it passes, with its own list
    ∷ (
      starts 3 five 20 (spawns 0 ∷ steals 1 0 ∷ writes 1 4 99 ∷ spawns 0 ∷ steals 2 0 ∷ returns 2 ∷ syncs 1 ∷ returns 0 ∷ reads 0 4 ∷ returns 0 ∷ []),
      returned 20 (101 ∷ 1 ∷ 103 ∷ 0 ∷ 106 ∷ 5 ∷ 101 ∷ 2 ∷ 103 ∷ 1 ∷ 102 ∷ 4 ∷ 104 ∷ 1 ∷ 102 ∷ 2 ∷ 105 ∷ 99 ∷ 102 ∷ 3 ∷ []),
    )
    -- 3: Main, its child and the child's child wait, and one return ends all four
    ∷ (
      starts 2 five 20 (spawns 0 ∷ spawns 0 ∷ spawns 0 ∷ steals 1 0 ∷ returns 1 ∷ steals 1 0 ∷ returns 1 ∷ steals 1 0 ∷ returns 1 ∷ steals 1 0 ∷ reads 0 4 ∷ returns 0 ∷ reads 0 4 ∷ []),
      returned 20 (101 ∷ 1 ∷ 101 ∷ 2 ∷ 101 ∷ 3 ∷ 103 ∷ 0 ∷ 102 ∷ 4 ∷ 103 ∷ 1 ∷ 102 ∷ 4 ∷ 103 ∷ 2 ∷ 102 ∷ 4 ∷ 12 ∷ 0 ∷ 105 ∷ 50 ∷ 102 ∷ 3 ∷ 9 ∷ 0 ∷ []),
    )
    -- the same with Main's child at its sync: it resumes, 2, and its own return ends Main
    ∷ (
      starts 2 five 20 (spawns 0 ∷ spawns 0 ∷ spawns 0 ∷ steals 1 0 ∷ returns 1 ∷ steals 1 0 ∷ syncs 1 ∷ steals 1 0 ∷ returns 1 ∷ returns 0 ∷ reads 0 4 ∷ returns 0 ∷ []),
      returned 20 (101 ∷ 1 ∷ 101 ∷ 2 ∷ 101 ∷ 3 ∷ 103 ∷ 0 ∷ 102 ∷ 4 ∷ 103 ∷ 1 ∷ 104 ∷ 1 ∷ 103 ∷ 2 ∷ 102 ∷ 4 ∷ 102 ∷ 2 ∷ 105 ∷ 50 ∷ 102 ∷ 3 ∷ []),
    )
    -- Main waits for two children: the first waits too, and ends with its own, 1; Main ends with the second, 3
    ∷ (
      starts 3 five 20 (spawns 0 ∷ steals 1 0 ∷ spawns 1 ∷ steals 2 1 ∷ returns 2 ∷ spawns 0 ∷ steals 2 0 ∷ returns 2 ∷ returns 0 ∷ reads 0 4 ∷ steals 0 1 ∷ returns 1 ∷ []),
      returned 20 (101 ∷ 1 ∷ 103 ∷ 0 ∷ 101 ∷ 1 ∷ 103 ∷ 0 ∷ 102 ∷ 4 ∷ 101 ∷ 2 ∷ 103 ∷ 1 ∷ 102 ∷ 4 ∷ 102 ∷ 1 ∷ 10 ∷ 0 ∷ 12 ∷ 0 ∷ 102 ∷ 3 ∷ []),
    )
    -- n 1, 3 nodes: one is Main's, which waits, so that a write deeper down is refused by 16
    ∷ (
      starts 2 (7 ∷ []) 3 (spawns 0 ∷ steals 1 0 ∷ writes 1 0 9 ∷ returns 1 ∷ spawns 0 ∷ writes 0 0 5 ∷ spawns 0 ∷ writes 0 0 6 ∷ returns 0 ∷ returns 0 ∷ writes 0 0 8 ∷ returns 0 ∷ []),
      returned 3 (101 ∷ 1 ∷ 103 ∷ 0 ∷ 106 ∷ 1 ∷ 102 ∷ 4 ∷ 101 ∷ 2 ∷ 106 ∷ 0 ∷ 101 ∷ 3 ∷ 16 ∷ 0 ∷ 102 ∷ 0 ∷ 102 ∷ 0 ∷ 106 ∷ 1 ∷ 102 ∷ 3 ∷ []),
    )
    -- R-5: "folds its value into the reducer named in its splitter field and answers 107 0"; "20, kind 7 names no reducer"; kinds above 7 are refused by
    -- 7 still, and after Main's return a fold by 9. "the value divided by 65,536 is the multiplier": 0 here
    ∷ (
      starts 1 (7 ∷ []) 1 (folds 0 0 5 ∷ folds 0 3 5 ∷ folds 0 255 0 ∷ bytes 8 0 0 0 ∷ folds 0 1 6 ∷ folds 0 2 0 ∷ returns 0 ∷ folds 0 0 5 ∷ folds 0 3 5 ∷ []),
      ends 1 (107 ∷ 0 ∷ 20 ∷ 0 ∷ 20 ∷ 0 ∷ 7 ∷ 0 ∷ 107 ∷ 0 ∷ 107 ∷ 0 ∷ 102 ∷ 3 ∷ 9 ∷ 0 ∷ 9 ∷ 0 ∷ []) (5 ∷ 6 ∷ 0 ∷ 0 ∷ []),
    )
    -- before Main's return they are zero
    ∷ (starts 1 (7 ∷ []) 1 (folds 0 0 5 ∷ folds 0 1 6 ∷ folds_map 0 2 3 ∷ []), answered 1 (107 ∷ 0 ∷ 107 ∷ 0 ∷ 107 ∷ 0 ∷ []))
    -- "modulo 4,294,967,296": 4,294,967,295 + 2; the map of 4,294,967,295 three times
    ∷ (
      starts 1 (7 ∷ []) 1 (folds_largest 0 0 ∷ folds 0 0 2 ∷ folds_largest 0 1 ∷ folds_largest 0 2 ∷ folds_largest 0 2 ∷ folds_largest 0 2 ∷ returns 0 ∷ []),
      ends 1 (107 ∷ 0 ∷ 107 ∷ 0 ∷ 107 ∷ 0 ∷ 107 ∷ 0 ∷ 107 ∷ 0 ∷ 107 ∷ 0 ∷ 102 ∷ 3 ∷ []) (1 ∷ 4294967295 ∷ 196607 ∷ 131071 ∷ []),
    )
    -- "in the order of Main's child-first list": Main folds 2x + 1, spawns A, folds 3x, spawns B, folds x + 5; A folds 5x + 2, B 7x + 1. B ends first, and A
    -- folds last. In the order of the tape the addend would be 287
    ∷ (
      starts 3 (7 ∷ []) 1
          (folds_map 0 2 1 ∷ folds 0 0 10 ∷ spawns 0 ∷ steals 1 0 ∷ folds_map 1 3 0 ∷ folds 1 1 9 ∷ spawns 1 ∷ steals 2 1 ∷ folds_map 2 1 5 ∷ folds_map 1 7 1 ∷ folds 1 0 20 ∷ returns 1 ∷ folds_map 0 5 2 ∷ folds 0 1 4 ∷ returns 0 ∷ returns 2 ∷ []),
      ends 1
          (107 ∷ 0 ∷ 107 ∷ 0 ∷ 101 ∷ 1 ∷ 103 ∷ 0 ∷ 107 ∷ 0 ∷ 107 ∷ 0 ∷ 101 ∷ 1 ∷ 103 ∷ 0 ∷ 107 ∷ 0 ∷ 107 ∷ 0 ∷ 107 ∷ 0 ∷ 102 ∷ 1 ∷ 107 ∷ 0 ∷ 107 ∷ 0 ∷ 102 ∷ 1 ∷ 102 ∷ 3 ∷ [])
          (30 ∷ 4 ∷ 210 ∷ 153 ∷ []),
    )
    -- A ends first, while B has a live child C: "the view of a frame that ends joins on the left of the next one's in that order", C's. B waits in its return
    ∷ (
      starts 3 (7 ∷ []) 1
          (folds_map 0 2 1 ∷ folds 0 0 10 ∷ spawns 0 ∷ steals 1 0 ∷ folds_map 1 3 0 ∷ folds 1 1 9 ∷ spawns 1 ∷ steals 2 1 ∷ folds_map 2 1 5 ∷ folds_map 1 7 1 ∷ spawns 1 ∷ folds_map 1 11 3 ∷ folds_map 0 5 2 ∷ folds 0 1 4 ∷ returns 0 ∷ steals 0 1 ∷ folds_map 0 13 0 ∷ folds 0 0 20 ∷ returns 0 ∷ returns 1 ∷ returns 2 ∷ []),
      ends 1
          (107 ∷ 0 ∷ 107 ∷ 0 ∷ 101 ∷ 1 ∷ 103 ∷ 0 ∷ 107 ∷ 0 ∷ 107 ∷ 0 ∷ 101 ∷ 1 ∷ 103 ∷ 0 ∷ 107 ∷ 0 ∷ 107 ∷ 0 ∷ 101 ∷ 2 ∷ 107 ∷ 0 ∷ 107 ∷ 0 ∷ 107 ∷ 0 ∷ 102 ∷ 1 ∷ 103 ∷ 1 ∷ 107 ∷ 0 ∷ 107 ∷ 0 ∷ 102 ∷ 4 ∷ 102 ∷ 1 ∷ 102 ∷ 3 ∷ [])
          (30 ∷ 4 ∷ 30030 ∷ 21208 ∷ []),
    )
    -- "as in the one-worker run": the same frames' steps on one worker
    ∷ (
      starts 1 (7 ∷ []) 1
          (folds_map 0 2 1 ∷ folds 0 0 10 ∷ spawns 0 ∷ folds_map 0 5 2 ∷ folds 0 1 4 ∷ returns 0 ∷ folds_map 0 3 0 ∷ folds 0 1 9 ∷ spawns 0 ∷ folds_map 0 7 1 ∷ spawns 0 ∷ folds_map 0 11 3 ∷ returns 0 ∷ folds_map 0 13 0 ∷ folds 0 0 20 ∷ returns 0 ∷ folds_map 0 1 5 ∷ returns 0 ∷ []),
      ends 1
          (107 ∷ 0 ∷ 107 ∷ 0 ∷ 101 ∷ 1 ∷ 107 ∷ 0 ∷ 107 ∷ 0 ∷ 102 ∷ 0 ∷ 107 ∷ 0 ∷ 107 ∷ 0 ∷ 101 ∷ 1 ∷ 107 ∷ 0 ∷ 101 ∷ 2 ∷ 107 ∷ 0 ∷ 102 ∷ 0 ∷ 107 ∷ 0 ∷ 107 ∷ 0 ∷ 102 ∷ 0 ∷ 107 ∷ 0 ∷ 102 ∷ 3 ∷ [])
          (30 ∷ 4 ∷ 30030 ∷ 21208 ∷ []),
    )
    -- Main and its child wait in their return, and all three end with the last
    ∷ (
      starts 2 (7 ∷ []) 1
          (folds_map 0 2 1 ∷ spawns 0 ∷ folds_map 0 3 0 ∷ steals 1 0 ∷ folds_map 1 1 7 ∷ returns 1 ∷ spawns 0 ∷ steals 1 0 ∷ folds_map 1 5 0 ∷ returns 1 ∷ folds_map 0 1 2 ∷ folds 0 1 8 ∷ returns 0 ∷ folds 0 0 1 ∷ []),
      ends 1
          (107 ∷ 0 ∷ 101 ∷ 1 ∷ 107 ∷ 0 ∷ 103 ∷ 0 ∷ 107 ∷ 0 ∷ 102 ∷ 4 ∷ 101 ∷ 2 ∷ 103 ∷ 1 ∷ 107 ∷ 0 ∷ 102 ∷ 4 ∷ 107 ∷ 0 ∷ 107 ∷ 0 ∷ 102 ∷ 3 ∷ 9 ∷ 0 ∷ [])
          (0 ∷ 8 ∷ 30 ∷ 32 ∷ []),
    )
    -- Main waits at its sync, and resumes with its child's view joined on the left of its own
    ∷ (
      starts 2 (7 ∷ []) 1 (folds_map 0 2 1 ∷ spawns 0 ∷ steals 1 0 ∷ folds_map 1 3 0 ∷ syncs 1 ∷ folds_map 0 5 1 ∷ returns 0 ∷ folds_map 0 1 4 ∷ returns 0 ∷ []),
      ends 1 (107 ∷ 0 ∷ 101 ∷ 1 ∷ 103 ∷ 0 ∷ 107 ∷ 0 ∷ 104 ∷ 1 ∷ 107 ∷ 0 ∷ 102 ∷ 2 ∷ 107 ∷ 0 ∷ 102 ∷ 3 ∷ []) (0 ∷ 4294967295 ∷ 30 ∷ 22 ∷ []),
    )
    -- R-6: "21, at a start, the table has 0 or more than 256 places"
    ∷ (starts_in 0 1 five 20 [], refused_by 21)
    ∷ (starts_in 257 1 five 20 [], refused_by 21)
    ∷ (starts_in 256 1 (7 ∷ []) 1 (spawns 0 ∷ []), answered 1 (101 ∷ 1 ∷ []))
    -- "Its length, 1 to 256, is the limit in 13": 1, Main's place is the only one, and free again once Main has returned
    ∷ (starts_in 1 1 (7 ∷ []) 2 (spawns 0 ∷ writes 0 0 5 ∷ reads 0 0 ∷ returns 0 ∷ spawns 0 ∷ []), returned 2 (13 ∷ 0 ∷ 106 ∷ 1 ∷ 105 ∷ 5 ∷ 102 ∷ 3 ∷ 9 ∷ 0 ∷ []))
    -- 2: one spawn is accepted and the next refused, by whichever frame, also while Main waits; after one return it is accepted
    ∷ (
      starts_in 2 2 (7 ∷ []) 2 (spawns 0 ∷ spawns 0 ∷ steals 1 0 ∷ spawns 1 ∷ spawns 0 ∷ returns 0 ∷ spawns 1 ∷ spawns 1 ∷ steals 0 1 ∷ returns 0 ∷ spawns 1 ∷ returns 1 ∷ []),
      returned 2 (101 ∷ 1 ∷ 13 ∷ 0 ∷ 103 ∷ 0 ∷ 13 ∷ 0 ∷ 13 ∷ 0 ∷ 102 ∷ 1 ∷ 101 ∷ 1 ∷ 13 ∷ 0 ∷ 103 ∷ 0 ∷ 102 ∷ 4 ∷ 13 ∷ 0 ∷ 102 ∷ 3 ∷ []),
    )
    ∷ []

-- without the check
quickly : map (λ (row : Case × Outcome). told row.0 (quick_tape (start_of row.0) (joined row.0.records) (works row.0) (replies row.0))) table ≡ map (λ (row : Case × Outcome). row.1) table
unfolding table start_on start_with run_on record_of decode_at spawn_on end_at upward end_bottom return_on steal_on sync_on read_on write_on fold_on step_on add_child spawn remove_frame end_frame go_on went_on steal sync synced fold relink_from eldest_to first_from next_after fold_view shift_up drop_top pop top bottom side child sibling bit leaf_of read_at retain release set_refcount path_node copy_path set_value set_link renew first_shared rest write_from write init_pool init_free init_leaves init_inner init_level set_node height width tree_nodes init_deques init_frames init_places push set_size set_place size place set_frame frame_at cleared refcount left right content links set_content
quickly = refl

pub starred : map (λ (row : Case × Outcome). outcome row.0) table ≡ map (λ (row : Case × Outcome). row.1) table
starred = (λ i. map (λ (row : Case × Outcome). told row.0 (tape_quick (start_of row.0) (joined row.0.records) (works row.0) (replies row.0) i)) table) ∙ quickly
