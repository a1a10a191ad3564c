-- Refusals 7 to 16 and 20: each at its condition and beside its nearest accepted neighbour, the order in which they are checked, and
-- that they leave state and pool unchanged, R-6: "every frame record as it was". Five tables, a theorem each: four through tapes, one through steps
-- from outside. R-3: "14 no longer occurs"; its rows are accepted, and of returns no refusal but 7 to 10 is left. R-5: 20 stands "in the place of 15".
--
-- These never hold together. By the kind of step: 10 (no steal) and 11, 12 (steals); 11, 12, 13 (spawns), 15, 16 (reads, writes) and 20 (folds), but
-- for 11 with 12 and 15 with 16; 7 and 16 or 20, for a write and a fold have no unused field. By the frames: 8 and 11, for a worker that does not exist
-- has no frame; 9 and 11 or 13, for no frame lives once Main has returned; 9 and 16, for no frame lives then, so no write is judged
-- by 16. Of all other pairs there is a row. (8 or 10 and 16: a worker without a frame has no path; the rows are where a write by each frame
-- that lives would be refused by 16.)
use Rattle.std.specs.Prelude.{◌≡◌, refl, Bool, true, cond, ◌&&◌, List, [], ◌∷◌, ◌++◌, map, ℕ, zero, suc, ◌*◌, length, replicate, eqb, ltb}
use Rattle.std.proofs.Common.{ap, ◌∙◌, inl, inr, eqb-true}
use Rattle.words.specs.Basics.{joined, same}
use Rattle.words.specs.Tests.{decided}
use Rattle.sizes.specs.Sizes.{height, width, tree_nodes, bit}
use Rattle.pool.specs.Pool.{side}
use Rattle.packed.specs.Pool.{refcount, links, content, left, right, set_node, set_refcount, child, sibling, leaf_of, read_at, retain, release, path_node, copy_path, set_value, set_link, renew, first_shared, rest, write_from, write, init_level, init_inner, init_leaves, init_free, init_pool, set_content}
use Rattle.reducers.specs.Reducers.{fold_view}
use Rattle.frames.specs.Frames.{frame_at, set_frame, init_places, init_frames}
use Rattle.frames.specs.Deques.{size, set_size, place, set_place, bottom, top, push, pop, shift_up, drop_top, init_deques}
use Rattle.frames.specs.Siblings.{relink_from, eldest_to, first_from, next_after}
use Rattle.frames.specs.Steps.{add_child, spawn, remove_frame, end_frame, go_on, went_on, steal, sync, synced, fold}
use Rattle.soundness.specs.Soundness.{cleared}
use Rattle.model.specs.Record.{record_of, decode_at}
use Rattle.semantics.specs.Core.{spawn_on, end_at, upward, end_bottom, return_on, steal_on, sync_on, read_on, write_on, fold_on, step_on}
use Rattle.semantics.specs.Answers.{words_in}
use Rattle.semantics.specs.Entries.{whole_nodes, start_on, start_with, OutsideResult, run_on, TapeResult}
use Rattle.semantics.specs.Calls.{Start, start_result, HostCall, tape, StateAndPool, after_start, outside_result, tape_result}
use Rattle.starred.specs.Tapes.{bytes, spawns, returns, steals, syncs, reads, writes, folds, parts_with, any_pool, words_of}
use Rattle.starred.specs.Quick.{after_calls, outside_by, outside_by_lem, after-sound, quick_tape, tape_quick, quick_calls, after_quick}
use Rattle.soundness.specs.Layout.{two_words}

-- ---- tapes

-- a record and its two answer words
abbrev pub Row : Type 0
Row = List ℕ × (ℕ × ℕ)

-- refused by k: "A refused record gives its refusal and 0"
abbrev by : List ℕ → ℕ → Row
by r k = (r, (k, 0))

abbrev gives : List ℕ → ℕ → ℕ → Row
gives r a b = (r, (a, b))

-- a start, then records: some that lead to a state, those that it refuses, some more
pub record Case : Type 0 where
  pub start : Start
  pub before : List Row
  pub refused : List Row
  pub after : List Row

abbrev bytes_of : List Row → List ℕ
bytes_of rows = joined (map (λ (r : Row). r.0) rows)

abbrev said_of : List Row → List ℕ
said_of rows = joined (map (λ (r : Row). r.1.0 ∷ r.1.1 ∷ []) rows)

abbrev works : Start → List ℕ
works b = replicate (whole_nodes two_words b.pool) 5

abbrev replies : List Row → List ℕ
replies rows = replicate (2 * length rows) 9

abbrev played : Start → List Row → TapeResult
played b rows = tape_result two_words (after_start two_words b) (bytes_of rows) (works b) (replies rows)

-- the answer words of all the records, q; and whether they leave the state and the pool that they leave without the refused ones, p
abbrev compared : TapeResult → TapeResult → List ℕ × Bool
compared p q = (q.answers, same (words_of q.state) (words_of p.state) && same q.pool p.pool)

abbrev seen : Case → List ℕ × Bool
seen k = compared (played k.start (k.before ++ k.after)) (played k.start (k.before ++ (k.refused ++ k.after)))

abbrev said : Case → List ℕ × Bool
said k = (said_of (k.before ++ (k.refused ++ k.after)), true)

-- without the check
abbrev played_quick : Start → List Row → TapeResult
played_quick b rows = quick_tape b (bytes_of rows) (works b) (replies rows)

played_quick_lem : (b : Start) (rows : List Row) → played b rows ≡ played_quick b rows
played_quick_lem b rows = tape_quick b (bytes_of rows) (works b) (replies rows)

abbrev seen_quick : Case → List ℕ × Bool
seen_quick k = let p : TapeResult = played_quick k.start (k.before ++ k.after) in let q : TapeResult = played_quick k.start (k.before ++ (k.refused ++ k.after)) in compared p q

seen_quick_lem : (k : Case) → seen k ≡ seen_quick k
seen_quick_lem k i = compared (played_quick_lem k.start (k.before ++ k.after) i) (played_quick_lem k.start (k.before ++ (k.refused ++ k.after)) i)

-- a frame table of so many places, and n splitters of value 1
abbrev starts_in : ℕ → ℕ → ℕ → ℕ → Start
starts_in places workers n nodes = record { parts = parts_with places; workers = workers; values = replicate n 1; pool = any_pool nodes }

-- 64 places
abbrev starts : ℕ → ℕ → ℕ → Start
starts workers n nodes = starts_in 64 workers n nodes

-- c nested spawns, the first to the depth d
abbrev nested : ℕ → ℕ → List Row
nested zero d = []
nested (suc c) d = gives (spawns 0) 101 d ∷ nested c (suc d)

-- R-3: Main's child lives on worker 0, and Main, which was on worker 1, waits in its return
abbrev main_returns : List Row
main_returns = gives (spawns 0) 101 1 ∷ gives (steals 1 0) 103 0 ∷ gives (returns 1) 102 4 ∷ []

-- Main alone on worker 0's deque, worker 1 idle, one node free
abbrev at_start : Case
at_start = record {
  start = starts 2 1 2;
  before = [];
  refused =
      -- "7. The kind is not 1 to 6 .."; R-5: "Refusal 7 lets kind 7 pass."
      by (bytes 0 0 0 0) 7
      ∷ by (bytes 8 0 0 0) 7
      ∷ by (bytes 255 0 0 0) 7
      -- ".. or an unused field is not zero": each unused field of each kind
      ∷ by (bytes 1 0 1 0) 7
      ∷ by (bytes 1 0 0 1) 7
      ∷ by (bytes 2 0 1 0) 7
      ∷ by (bytes 2 0 0 1) 7
      ∷ by (bytes 3 1 0 1) 7
      ∷ by (bytes 4 0 1 0) 7
      ∷ by (bytes 4 0 0 1) 7
      ∷ by (bytes 5 0 0 1) 7
      -- their highest bytes
      ∷ by (1 ∷ 0 ∷ 0 ∷ 1 ∷ 0 ∷ 0 ∷ 0 ∷ 0 ∷ []) 7
      ∷ by (5 ∷ 0 ∷ 0 ∷ 0 ∷ 0 ∷ 0 ∷ 0 ∷ 1 ∷ []) 7
      -- 7 before 8, 10, 11, 12 and 15
      ∷ by (bytes 0 2 0 0) 7
      ∷ by (bytes 1 2 1 0) 7
      ∷ by (bytes 5 1 0 1) 7
      ∷ by (bytes 3 0 1 1) 7
      ∷ by (bytes 3 1 2 1) 7
      ∷ by (bytes 5 0 1 1) 7
      -- "8. The worker does not exist.", of each kind
      ∷ by (spawns 2) 8
      ∷ by (returns 2) 8
      ∷ by (steals 2 0) 8
      ∷ by (syncs 2) 8
      ∷ by (reads 2 0) 8
      ∷ by (writes 2 0 5) 8
      ∷ by (folds 2 0 5) 8
      ∷ by (reads 255 0) 8
      -- 8 before 12, 15 and 20 (and 10: a worker that does not exist has no frame)
      ∷ by (steals 2 2) 8
      ∷ by (reads 2 1) 8
      ∷ by (writes 2 1 5) 8
      ∷ by (folds 2 3 5) 8
      -- "10. The step is not a steal and the worker is idle.", of each kind
      ∷ by (spawns 1) 10
      ∷ by (returns 1) 10
      ∷ by (syncs 1) 10
      ∷ by (reads 1 0) 10
      ∷ by (writes 1 0 5) 10
      ∷ by (folds 1 0 5) 10
      -- 10 before 15 and 20
      ∷ by (reads 1 1) 10
      ∷ by (writes 1 1 5) 10
      ∷ by (folds 1 3 5) 10
      -- "11. The step is a steal and the thief is not idle."; 11 before 12: the victim has one frame, none, or does not exist
      ∷ by (steals 0 0) 11
      ∷ by (steals 0 1) 11
      ∷ by (steals 0 2) 11
      -- "12. The victim does not exist or has fewer than two frames."
      ∷ by (steals 1 0) 12
      ∷ by (steals 1 1) 12
      ∷ by (steals 1 2) 12
      ∷ by (3 ∷ 1 ∷ 0 ∷ 1 ∷ 0 ∷ 0 ∷ 0 ∷ 0 ∷ []) 12
      -- "15. The step is a read or a write and the splitter is not below n."
      ∷ by (reads 0 1) 15
      ∷ by (writes 0 1 5) 15
      ∷ by (5 ∷ 0 ∷ 0 ∷ 1 ∷ 0 ∷ 0 ∷ 0 ∷ 0 ∷ []) 15
      -- R-5: "20, kind 7 names no reducer"
      ∷ by (folds 0 3 5) 20
      ∷ by (folds 0 3 0) 20
      ∷ by (folds 0 255 5) 20
      ∷ by (7 ∷ 0 ∷ 0 ∷ 1 ∷ 5 ∷ 0 ∷ 0 ∷ 0 ∷ []) 20
      ∷ [];
  after =
      -- the neighbours that are accepted
      gives (syncs 0) 104 0
      ∷ gives (reads 0 0) 105 1
      ∷ gives (writes 0 0 8) 106 1
      ∷ gives (folds 0 0 0) 107 0
      ∷ gives (folds 0 1 5) 107 0
      ∷ gives (folds 0 2 5) 107 0
      ∷ gives (spawns 0) 101 1
      ∷ gives (steals 1 0) 103 0
      ∷ gives (reads 1 0) 105 8
      ∷ gives (returns 0) 102 1
      ∷ gives (returns 1) 102 3
      ∷ [];
}

-- "1 to 8 workers, numbered from 0": the last one is there, and idle
abbrev eight_workers : Case
eight_workers = record {
  start = starts 8 1 1;
  before = [];
  refused = by (reads 7 0) 10 ∷ by (reads 8 0) 8 ∷ by (steals 1 7) 12 ∷ by (steals 8 7) 8 ∷ [];
  after = gives (spawns 0) 101 1 ∷ gives (steals 7 0) 103 0 ∷ gives (reads 7 0) 105 1 ∷ [];
}

-- no frame lives, and all nodes are free
abbrev main_returned : Case
main_returned = record {
  start = starts 2 1 2;
  before = gives (returns 0) 102 3 ∷ [];
  refused =
      -- "9. Main has returned.", of each kind; 9 before 10 and 12
      by (spawns 0) 9
      ∷ by (returns 0) 9
      ∷ by (steals 1 0) 9
      ∷ by (steals 1 2) 9
      ∷ by (syncs 0) 9
      ∷ by (reads 0 0) 9
      ∷ by (writes 0 0 5) 9
      ∷ by (folds 0 0 5) 9
      ∷ by (spawns 1) 9
      -- 9 before 15 and 20
      ∷ by (reads 0 1) 9
      ∷ by (writes 0 1 5) 9
      ∷ by (folds 0 3 5) 9
      -- 7 and 8 before 9
      ∷ by (bytes 0 0 0 0) 7
      ∷ by (bytes 8 0 0 0) 7
      ∷ by (bytes 1 0 1 0) 7
      ∷ by (spawns 2) 8
      ∷ by (steals 2 0) 8
      ∷ by (folds 2 0 5) 8
      ∷ [];
  after = [];
}

-- worker 0 has Main and a child of it
abbrev two_frames : Case
two_frames = record {
  start = starts 3 1 2;
  before = gives (spawns 0) 101 1 ∷ [];
  -- 11 where the victim has two frames
  refused = by (steals 0 0) 11 ∷ by (steals 1 2) 12 ∷ [];
  after = gives (steals 1 0) 103 0 ∷ by (steals 2 0) 12 ∷ by (steals 2 1) 12 ∷ [];
}

-- Main on worker 1, its child on worker 0
abbrev child_elsewhere : Case
child_elsewhere = record {
  start = starts 3 1 2;
  before = gives (spawns 0) 101 1 ∷ gives (steals 1 0) 103 0 ∷ [];
  refused =
      -- 7 where the frame has a live child
      by (bytes 2 1 1 0) 7
      -- 11 before 12, 12
      ∷ by (steals 0 1) 11
      ∷ by (steals 2 0) 12
      ∷ by (steals 2 1) 12
      ∷ [];
  -- R-3: a return with a live child, 14 before, is accepted
  after = gives (returns 1) 102 4 ∷ gives (returns 0) 102 3 ∷ [];
}

-- R-3: Main waits in its return
abbrev main_waits : Case
main_waits = record {
  start = starts 3 1 2;
  before = main_returns;
  refused =
      -- "Main has returned once it has ended, .. and not while it waits": no 9, but 10, of each kind, for "its worker goes idle" ..
      by (spawns 1) 10
      ∷ by (returns 1) 10
      ∷ by (syncs 1) 10
      ∷ by (reads 1 0) 10
      ∷ by (writes 1 0 5) 10
      ∷ by (folds 1 0 5) 10
      ∷ by (reads 2 0) 10
      -- .. and 11 or 12
      ∷ by (steals 0 1) 11
      ∷ by (steals 1 0) 12
      ∷ by (steals 2 1) 12
      ∷ by (steals 1 3) 12
      -- 7 and 8 before them, 10 before 15 and 20, and 15, 20
      ∷ by (bytes 2 1 1 0) 7
      ∷ by (returns 3) 8
      ∷ by (reads 1 1) 10
      ∷ by (folds 1 3 5) 10
      ∷ by (reads 0 1) 15
      ∷ by (folds 0 3 5) 20
      ∷ [];
  after =
      -- its child waits too, and ends, like Main, when its own child does: then 9
      gives (folds 0 0 5) 107 0
      ∷ gives (spawns 0) 101 2
      ∷ gives (steals 1 0) 103 1
      ∷ gives (returns 1) 102 4
      ∷ by (returns 1) 10
      ∷ by (steals 1 0) 12
      ∷ gives (writes 0 0 5) 106 0
      ∷ gives (returns 0) 102 3
      ∷ by (returns 1) 9
      ∷ by (steals 1 0) 9
      ∷ [];
}

-- 16, by R-2: "From the root down, nodes with one holder are altered where they are; from the first with more holders the rest of the
-- path is new. Refusal 16 is now given when fewer nodes are free than that rest has."
--
-- Of one splitter: Main and its child have the same leaf, and no node is free
abbrev leaf_shared : Case
leaf_shared = record {
  start = starts 2 1 1;
  before = gives (spawns 0) 101 1 ∷ [];
  refused =
      by (writes 0 0 5) 16
      -- "skipping the new path when the written value is equal" is a trap
      ∷ by (writes 0 0 1) 16
      -- 8, 10 and 15 before 16
      ∷ by (writes 2 0 5) 8
      ∷ by (writes 1 0 5) 10
      ∷ by (writes 0 1 5) 15
      ∷ [];
  -- the child has returned, and Main's write takes no node
  after = gives (reads 0 0) 105 1 ∷ gives (returns 0) 102 0 ∷ gives (writes 0 0 5) 106 0 ∷ gives (reads 0 0) 105 5 ∷ [];
}

-- the same of both frames, Main being on worker 1
abbrev leaf_shared_elsewhere : Case
leaf_shared_elsewhere = record {
  start = starts 3 1 1;
  before = gives (spawns 0) 101 1 ∷ gives (steals 1 0) 103 0 ∷ [];
  refused = by (writes 0 0 5) 16 ∷ by (writes 1 0 5) 16 ∷ by (writes 2 0 5) 10 ∷ by (writes 1 1 5) 15 ∷ [];
  after = gives (returns 0) 102 1 ∷ gives (writes 1 0 5) 106 0 ∷ gives (reads 1 0) 105 5 ∷ [];
}

-- one node is free: the child's write takes it, also if it writes an equal value, and its next takes none
abbrev leaf_free : Case
leaf_free = record {
  start = starts 2 1 2;
  before = gives (spawns 0) 101 1 ∷ [];
  refused = by (writes 1 0 5) 10 ∷ by (writes 0 1 5) 15 ∷ [];
  after = gives (writes 0 0 1) 106 0 ∷ gives (writes 0 0 6) 106 0 ∷ gives (reads 0 0) 105 6 ∷ gives (returns 0) 102 0 ∷ gives (reads 0 0) 105 1 ∷ [];
}

-- Of two splitters: Main and its child have the same root, so the rest of either path has two nodes, and one is free
abbrev root_shared : Case
root_shared = record {
  start = starts 2 2 4;
  before = gives (spawns 0) 101 1 ∷ [];
  refused = by (writes 0 0 5) 16 ∷ by (writes 0 1 5) 16 ∷ by (writes 0 1 1) 16 ∷ by (writes 2 1 5) 8 ∷ by (writes 1 1 5) 10 ∷ by (writes 0 2 5) 15 ∷ [];
  after = gives (reads 0 1) 105 1 ∷ gives (returns 0) 102 0 ∷ gives (writes 0 1 5) 106 1 ∷ gives (reads 0 1) 105 5 ∷ [];
}

-- two are free
abbrev root_free : Case
root_free = record {
  start = starts 2 2 5;
  before = gives (spawns 0) 101 1 ∷ [];
  refused = by (writes 1 1 5) 10 ∷ by (writes 0 2 5) 15 ∷ [];
  after = gives (writes 0 1 5) 106 0 ∷ gives (reads 0 1) 105 5 ∷ [];
}

-- the child's root is its own, and the leaf of splitter 1 is Main's too: the rest has one node, and none is free
abbrev only_leaf_shared : Case
only_leaf_shared = record {
  start = starts 2 2 5;
  before = gives (spawns 0) 101 1 ∷ gives (writes 0 0 5) 106 0 ∷ [];
  refused = by (writes 0 1 5) 16 ∷ by (writes 0 1 1) 16 ∷ by (writes 1 1 5) 10 ∷ by (writes 0 2 5) 15 ∷ [];
  -- of the path to splitter 0 no node is shared
  after = gives (writes 0 0 6) 106 0 ∷ gives (reads 0 0) 105 6 ∷ gives (reads 0 1) 105 1 ∷ [];
}

-- one is free
abbrev only_leaf_free : Case
only_leaf_free = record {
  start = starts 2 2 6;
  before = gives (spawns 0) 101 1 ∷ gives (writes 0 0 5) 106 1 ∷ [];
  refused = by (writes 1 1 5) 10 ∷ by (writes 0 2 5) 15 ∷ [];
  after = gives (writes 0 1 5) 106 0 ∷ gives (writes 0 1 6) 106 0 ∷ gives (reads 0 1) 105 6 ∷ gives (returns 0) 102 0 ∷ gives (reads 0 1) 105 1 ∷ [];
}

-- Of four splitters: the child's root is its own, and the node above the leaves of 2 and 3 is Main's too: two nodes, and one is free. It is
-- enough for 1, of whose path only the leaf is shared
abbrev inner_shared : Case
inner_shared = record {
  start = starts 1 4 11;
  before = gives (spawns 0) 101 1 ∷ gives (writes 0 0 5) 106 1 ∷ [];
  refused = by (writes 0 2 5) 16 ∷ by (writes 0 3 5) 16 ∷ by (writes 0 4 5) 15 ∷ [];
  after = gives (writes 0 1 5) 106 0 ∷ gives (reads 0 1) 105 5 ∷ gives (reads 0 3) 105 1 ∷ [];
}

-- two are free
abbrev inner_free : Case
inner_free = record {
  start = starts 1 4 12;
  before = gives (spawns 0) 101 1 ∷ gives (writes 0 0 5) 106 2 ∷ [];
  refused = by (writes 0 4 5) 15 ∷ [];
  after = gives (writes 0 3 5) 106 0 ∷ gives (reads 0 3) 105 5 ∷ by (writes 0 2 6) 16 ∷ [];
}

pub workers_table : List Case
workers_table = at_start ∷ eight_workers ∷ main_returned ∷ two_frames ∷ []

workers_quickly : map seen_quick workers_table ≡ map said workers_table
unfolding workers_table start_on start_with run_on record_of decode_at spawn_on end_at upward end_bottom return_on steal_on sync_on read_on write_on fold_on step_on add_child spawn remove_frame end_frame go_on went_on steal sync synced fold relink_from eldest_to first_from next_after fold_view shift_up drop_top pop top bottom side child sibling bit leaf_of read_at retain release set_refcount path_node copy_path set_value set_link renew first_shared rest write_from write init_pool init_free init_leaves init_inner init_level set_node height width tree_nodes init_deques init_frames init_places push set_size set_place size place set_frame frame_at cleared refcount left right content links set_content
workers_quickly = refl

pub workers_refusals : map seen workers_table ≡ map said workers_table
workers_refusals = (λ i. map (λ (k : Case). seen_quick_lem k i) workers_table) ∙ workers_quickly

pub nodes_table : List Case
nodes_table =
    child_elsewhere
    ∷ main_waits
    ∷ leaf_shared
    ∷ leaf_shared_elsewhere
    ∷ leaf_free
    ∷ root_shared
    ∷ root_free
    ∷ only_leaf_shared
    ∷ only_leaf_free
    ∷ inner_shared
    ∷ inner_free
    ∷ []

nodes_quickly : map seen_quick nodes_table ≡ map said nodes_table
unfolding nodes_table start_on start_with run_on record_of decode_at spawn_on end_at upward end_bottom return_on steal_on sync_on read_on write_on fold_on step_on add_child spawn remove_frame end_frame go_on went_on steal sync synced fold relink_from eldest_to first_from next_after fold_view shift_up drop_top pop top bottom side child sibling bit leaf_of read_at retain release set_refcount path_node copy_path set_value set_link renew first_shared rest write_from write init_pool init_free init_leaves init_inner init_level set_node height width tree_nodes init_deques init_frames init_places push set_size set_place size place set_frame frame_at cleared refcount left right content links set_content
nodes_quickly = refl

pub nodes_refusals : map seen nodes_table ≡ map said nodes_table
nodes_refusals = (λ i. map (λ (k : Case). seen_quick_lem k i) nodes_table) ∙ nodes_quickly

-- ---- 13: "The step is a spawn and 64 frames live."; R-6: the table's length "is the limit in 13"

-- 64 places: "The 63rd nested spawn gives 101 63, the 64th 13; after one return it is accepted."; the same of 256, the most: a table of so many places and one
pub frames_table : ℕ → List Row
frames_table k =
    nested k 1
    ++ (by (spawns 0) 13
    -- 7, 8 and 10 before 13
    ∷ by (bytes 1 0 1 0) 7
    ∷ by (spawns 2) 8
    ∷ by (spawns 1) 10
    ∷ gives (reads 0 0) 105 1
    -- R-3: Main, which waits in its return, lives
    ∷ gives (steals 1 0) 103 0
    ∷ gives (returns 1) 102 4
    ∷ by (spawns 0) 13
    ∷ gives (returns 0) 102 0
    ∷ gives (spawns 0) 101 k
    ∷ by (spawns 0) 13
    ∷ [])

frames_quickly : map (λ k. (played_quick (starts_in (suc k) 2 1 1) (frames_table k)).answers) (63 ∷ 255 ∷ []) ≡ map (λ k. said_of (frames_table k)) (63 ∷ 255 ∷ [])
unfolding frames_table start_on start_with run_on record_of decode_at spawn_on end_at upward end_bottom return_on steal_on sync_on read_on write_on fold_on step_on add_child spawn remove_frame end_frame go_on went_on steal sync synced fold relink_from eldest_to first_from next_after fold_view shift_up drop_top pop top bottom side child sibling bit leaf_of read_at retain release set_refcount path_node copy_path set_value set_link renew first_shared rest write_from write init_pool init_free init_leaves init_inner init_level set_node height width tree_nodes init_deques init_frames init_places push set_size set_place size place set_frame frame_at cleared refcount left right content links set_content
frames_quickly = refl

pub frames_refusals : map (λ k. (played (starts_in (suc k) 2 1 1) (frames_table k)).answers) (63 ∷ 255 ∷ []) ≡ map (λ k. said_of (frames_table k)) (63 ∷ 255 ∷ [])
frames_refusals = (λ i. map (λ k. (played_quick_lem (starts_in (suc k) 2 1 1) (frames_table k) i).answers) (63 ∷ 255 ∷ [])) ∙ frames_quickly

-- few places: Main in the only one
abbrev one_place : Case
one_place = record {
  start = starts_in 1 2 1 2;
  before = [];
  refused = by (spawns 0) 13 ∷ by (bytes 1 0 1 0) 7 ∷ by (spawns 2) 8 ∷ by (spawns 1) 10 ∷ by (steals 1 0) 12 ∷ [];
  after = [];
}

-- its place is free when it has returned, but then 9 is given
abbrev one_place_returned : Case
one_place_returned = record {
  start = starts_in 1 2 1 2;
  before = gives (writes 0 0 5) 106 1 ∷ gives (folds 0 0 5) 107 0 ∷ gives (returns 0) 102 3 ∷ [];
  refused = by (spawns 0) 9 ∷ by (spawns 1) 9 ∷ [];
  after = [];
}

-- Main and its child in two; "after one return it is accepted"
abbrev two_places : Case
two_places = record {
  start = starts_in 2 2 1 2;
  before = gives (spawns 0) 101 1 ∷ [];
  refused = by (spawns 0) 13 ∷ by (bytes 1 0 0 1) 7 ∷ by (spawns 2) 8 ∷ by (spawns 1) 10 ∷ [];
  after = gives (returns 0) 102 0 ∷ gives (spawns 0) 101 1 ∷ by (spawns 0) 13 ∷ [];
}

-- the same of both frames, Main being on worker 1
abbrev two_places_elsewhere : Case
two_places_elsewhere = record {
  start = starts_in 2 2 1 2;
  before = gives (spawns 0) 101 1 ∷ gives (steals 1 0) 103 0 ∷ [];
  refused = by (spawns 0) 13 ∷ by (spawns 1) 13 ∷ [];
  after = gives (returns 0) 102 1 ∷ gives (spawns 1) 101 1 ∷ by (spawns 1) 13 ∷ [];
}

-- where Main waits in its return, its place is not free
abbrev two_places_waiting : Case
two_places_waiting = record {
  start = starts_in 2 2 1 2;
  before = main_returns;
  refused = by (spawns 0) 13 ∷ by (spawns 1) 10 ∷ [];
  after = gives (returns 0) 102 3 ∷ by (spawns 0) 9 ∷ [];
}

-- two children, whose links a refused spawn leaves
abbrev three_places : Case
three_places = record {
  start = starts_in 3 2 1 2;
  before = gives (spawns 0) 101 1 ∷ gives (steals 1 0) 103 0 ∷ gives (spawns 1) 101 1 ∷ [];
  refused = by (spawns 0) 13 ∷ by (spawns 1) 13 ∷ [];
  after = gives (returns 1) 102 0 ∷ gives (spawns 0) 101 2 ∷ by (spawns 1) 13 ∷ [];
}

pub places_table : List Case
places_table = one_place ∷ one_place_returned ∷ two_places ∷ two_places_elsewhere ∷ two_places_waiting ∷ three_places ∷ []

places_quickly : map seen_quick places_table ≡ map said places_table
unfolding places_table start_on start_with run_on record_of decode_at spawn_on end_at upward end_bottom return_on steal_on sync_on read_on write_on fold_on step_on add_child spawn remove_frame end_frame go_on went_on steal sync synced fold relink_from eldest_to first_from next_after fold_view shift_up drop_top pop top bottom side child sibling bit leaf_of read_at retain release set_refcount path_node copy_path set_value set_link renew first_shared rest write_from write init_pool init_free init_leaves init_inner init_level set_node height width tree_nodes init_deques init_frames init_places push set_size set_place size place set_frame frame_at cleared refcount left right content links set_content
places_quickly = refl

pub places_refusals : map seen places_table ≡ map said places_table
places_refusals = (λ i. map (λ (k : Case). seen_quick_lem k i) places_table) ∙ places_quickly

-- ---- steps from outside

-- a step after a start and perhaps a tape: its numbers, and its two answer words
pub record StepRow : Type 0 where
  pub start : Start
  pub before : List Row
  pub kind : ℕ
  pub worker : ℕ
  pub field : ℕ
  pub value : ℕ
  pub words : ℕ × ℕ

abbrev tape_of : List Row → List HostCall
tape_of [] = []
tape_of (r ∷ rows) = tape (bytes_of (r ∷ rows)) (replicate 2 5) (replicate (2 * length (r ∷ rows)) 9) ∷ []

abbrev enters : Start → List Row → (kind worker field value : ℕ) → ℕ → ℕ → StepRow
enters b rows k w f v x y = record { start = b; before = rows; kind = k; worker = w; field = f; value = v; words = (x, y) }

-- the answer words; and whether the step, if it was refused, changed nothing
abbrev answered_by : StateAndPool → OutsideResult → (ℕ × ℕ) × Bool
answered_by h o =
    let unchanged : Bool = same (words_of o.state) (words_of h.state) && same o.pool h.pool in
    (words_in o.result, cond (ltb (words_in o.result).0 100) unchanged true)

abbrev before_step : StepRow → StateAndPool
before_step r = after_calls (after_start two_words r.start) (tape_of r.before)

-- by a step that leaves this, of the state, the pool and the work slice
abbrev seen_by : StepRow → (StateAndPool → List ℕ → OutsideResult) → StateAndPool → (ℕ × ℕ) × Bool
seen_by r does h = let o : OutsideResult = does h (replicate (whole_nodes two_words h.pool) 5) in answered_by h o

abbrev step_seen : StepRow → (ℕ × ℕ) × Bool
step_seen r = seen_by r (λ h work. outside_result two_words h r.kind r.worker r.field r.value work) (before_step r)

pub step_table : List StepRow
step_table =
    enters (starts 2 1 2) [] 0 0 0 0 7 0
    ∷ enters (starts 2 1 2) [] 1 0 0 1 7 0
    ∷ enters (starts 2 1 2) [] 5 2 0 0 8 0
    ∷ enters (starts 2 1 2) (gives (returns 0) 102 3 ∷ []) 5 0 0 0 9 0
    ∷ enters (starts 2 1 2) [] 5 1 0 0 10 0
    ∷ enters (starts 2 1 2) [] 3 0 1 0 11 0
    ∷ enters (starts 2 1 2) [] 3 1 0 0 12 0
    ∷ enters (starts 2 1 2) (nested 63 1) 1 0 0 0 13 0
    -- R-3: what 14 refused, and what follows
    ∷ enters (starts 2 1 2) (gives (spawns 0) 101 1 ∷ gives (steals 1 0) 103 0 ∷ []) 2 1 0 0 102 4
    ∷ enters (starts 2 1 2) main_returns 2 1 0 0 10 0
    ∷ enters (starts 2 1 2) main_returns 3 1 0 0 12 0
    ∷ enters (starts 2 1 2) main_returns 2 0 0 0 102 3
    ∷ enters (starts 2 1 2) [] 5 0 1 0 15 0
    ∷ enters (starts 2 1 1) (gives (spawns 0) 101 1 ∷ []) 6 0 0 5 16 0
    ∷ enters (starts 2 1 1) (gives (spawns 0) 101 1 ∷ []) 6 0 0 1 16 0
    ∷ enters (starts 2 1 2) (gives (spawns 0) 101 1 ∷ []) 6 0 0 5 106 0
    ∷ enters (starts 2 1 1) [] 6 0 0 5 106 0
    ∷ enters (starts 2 1 2) [] 6 0 0 5 106 1
    ∷ enters (starts 2 1 2) [] 5 0 0 0 105 1
    -- R-5
    ∷ enters (starts 2 1 2) [] 8 0 0 0 7 0
    ∷ enters (starts 2 1 2) [] 7 2 0 5 8 0
    ∷ enters (starts 2 1 2) (gives (returns 0) 102 3 ∷ []) 7 0 0 5 9 0
    ∷ enters (starts 2 1 2) [] 7 1 3 5 10 0
    ∷ enters (starts 2 1 2) [] 7 0 3 5 20 0
    ∷ enters (starts 2 1 2) [] 7 0 0 0 107 0
    ∷ enters (starts 2 1 2) [] 7 0 1 5 107 0
    ∷ enters (starts 2 1 2) [] 7 0 2 4294967295 107 0
    -- R-6: 13 by the table's length
    ∷ enters (starts_in 1 2 1 2) [] 1 0 0 0 13 0
    ∷ enters (starts_in 2 2 1 2) [] 1 0 0 0 101 1
    ∷ enters (starts_in 2 2 1 2) (gives (spawns 0) 101 1 ∷ []) 1 0 0 0 13 0
    ∷ enters (starts_in 2 2 1 2) (gives (spawns 0) 101 1 ∷ gives (returns 0) 102 0 ∷ []) 1 0 0 0 101 1
    ∷ enters (starts_in 65 2 1 2) (nested 63 1) 1 0 0 0 101 64
    -- a number that its field in a record could not hold
    ∷ enters (starts 2 1 2) [] 257 0 0 0 7 0
    ∷ enters (starts 2 1 2) [] 263 0 0 0 7 0
    ∷ enters (starts 2 1 2) [] 5 256 0 0 8 0
    ∷ enters (starts 2 1 2) [] 3 1 65536 0 12 0
    ∷ enters (starts 2 1 2) [] 5 0 65536 0 15 0
    ∷ enters (starts 2 1 2) [] 7 0 65536 0 20 0
    ∷ []

-- without the check
abbrev step_direct : StepRow → StateAndPool → (ℕ × ℕ) × Bool
step_direct r h = seen_by r (λ g work. outside_by true g r.kind r.worker r.field r.value work) h

abbrev step_quick : StepRow → (ℕ × ℕ) × Bool
step_quick r = cond (eqb (start_result two_words r.start).result 0) (step_direct r (quick_calls (after_start two_words r.start) (tape_of r.before))) (step_seen r)

step_quick_lem : (r : StepRow) → step_seen r ≡ step_quick r
step_quick_lem r = elim (decided (eqb (start_result two_words r.start).result 0)) [
  | inl e ↦
      let a = eqb-true (start_result two_words r.start).result 0 e in
      let h = before_step r in
      rw e
      (ap (answered_by h) (outside_by_lem h r.kind r.worker r.field r.value (replicate (whole_nodes two_words h.pool) 5) (after-sound r.start (tape_of r.before) a))
      ∙ ap (step_direct r) (after_quick r.start (tape_of r.before) a))
  | inr e ↦ rw e refl
]

step_quickly : map step_quick step_table ≡ map (λ (row : StepRow). (row.words, true)) step_table
unfolding step_table start_on start_with run_on record_of decode_at spawn_on end_at upward end_bottom return_on steal_on sync_on read_on write_on fold_on step_on add_child spawn remove_frame end_frame go_on went_on steal sync synced fold relink_from eldest_to first_from next_after fold_view shift_up drop_top pop top bottom side child sibling bit leaf_of read_at retain release set_refcount path_node copy_path set_value set_link renew first_shared rest write_from write init_pool init_free init_leaves init_inner init_level set_node height width tree_nodes init_deques init_frames init_places push set_size set_place size place set_frame frame_at cleared refcount left right content links set_content
step_quickly = refl

pub step_refusals : map step_seen step_table ≡ map (λ (row : StepRow). (row.words, true)) step_table
step_refusals = (λ i. map (λ (row : StepRow). step_quick_lem row i) step_table) ∙ step_quickly
