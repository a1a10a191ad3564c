-- R-7: reports, computed: work, span, quotient and remainder; 22; the refusals before anything changes, their order and what they leave.
use Rattle.std.specs.Prelude.{◌≡◌, refl, Bool, true, cond, ◌&&◌, List, [], ◌∷◌, map, ℕ, ◌*◌, length, replicate, eqb}
use Rattle.words.specs.Basics.{same, joined}
use Rattle.sizes.specs.Sizes.{height, width, tree_nodes, bit}
use Rattle.pool.specs.Pool.{side}
use Rattle.packed.specs.Pool.{refcount, links, content, left, right, set_node, set_refcount, child, sibling, leaf_of, read_at, retain, release, path_node, copy_path, set_value, set_link, renew, first_shared, rest, write_from, write, init_level, init_inner, init_leaves, init_free, init_pool, set_content}
use Rattle.reducers.specs.Reducers.{fold_view}
use Rattle.frames.specs.Frames.{frame_at, set_frame, init_places, init_frames}
use Rattle.frames.specs.Deques.{size, set_size, place, set_place, bottom, top, push, pop, shift_up, drop_top, init_deques}
use Rattle.frames.specs.Siblings.{relink_from, eldest_to, first_from, next_after}
use Rattle.frames.specs.Steps.{add_child, spawn, remove_frame, end_frame, go_on, went_on, steal, sync, synced, fold}
use Rattle.model.specs.Record.{record_of, decode_at}
use Rattle.semantics.specs.Core.{spawn_on, end_at, upward, end_bottom, return_on, steal_on, sync_on, read_on, write_on, fold_on, step_on}
use Rattle.semantics.specs.Entries.{State, start_on, start_with, records_from}
use Rattle.semantics.specs.Timing.{rise, timed_with, timed_over}
use Rattle.semantics.specs.Report.{Lent, ReportResult, report_with, report_on}
use Rattle.starred.specs.Tapes.{spawns, returns, steals, syncs, reads, writes, folds, records_of, parts_with, any_pool}
use Rattle.soundness.specs.Layout.{two_words}

-- ---- accepted starts: three workers, one splitter, four nodes, a table of eight places; slices that are long enough and hold anything

abbrev lends : List (List ℕ) → Lent
lends records = record { work = replicate 4 5; answers = replicate (2 * length records) 9; clocks = replicate 16 6; report = replicate 4 8 }

abbrev reported : List (List ℕ) → ReportResult
reported records = report_on two_words (parts_with 8) 3 (7 ∷ []) (any_pool 4) (joined records) (lends records)

-- the result, and the report's words
abbrev seen : List (List ℕ) → ℕ × List ℕ
seen records = let o : ReportResult = reported records in (o.result, o.lent.report)

abbrev Row : Type 0
Row = List (List ℕ) × (ℕ × List ℕ)

abbrev withheld : ℕ × List ℕ
withheld = (22, replicate 4 8)

table : List Row
table =
    -- "Main has not returned or the span is 0": Main returns at once; it has not returned; it waits in its return; an empty tape
    (returns 0 ∷ [], withheld)
    ∷ (reads 0 0 ∷ reads 0 0 ∷ [], withheld)
    ∷ (spawns 0 ∷ steals 1 0 ∷ returns 1 ∷ [], withheld)
    ∷ ([], withheld)
    -- "Each accepted spawn, sync, read, write and fold costs 1, returns and steals 0."; a refused one (15), and one that is no step (7), none
    ∷ (reads 0 0 ∷ writes 0 0 5 ∷ folds 0 0 3 ∷ syncs 0 ∷ reads 0 1 ∷ (9 ∷ 0 ∷ 0 ∷ 0 ∷ 0 ∷ 0 ∷ 0 ∷ 0 ∷ []) ∷ returns 0 ∷ reads 0 0 ∷ [], (0, 4 ∷ 4 ∷ 1 ∷ 0 ∷ []))
    -- a chain: each child returns before its parent goes on, without a sync; "a return likewise waits but adds nothing"
    ∷ (spawns 0 ∷ spawns 0 ∷ reads 0 0 ∷ returns 0 ∷ returns 0 ∷ returns 0 ∷ [], (0, 3 ∷ 3 ∷ 1 ∷ 0 ∷ []))
    -- a fan of three, each with two reads, then a sync: 3 spawns, 6 reads, 1 sync; 3 + 2 + 1
    ∷ (spawns 0 ∷ reads 0 0 ∷ reads 0 0 ∷ returns 0 ∷ spawns 0 ∷ reads 0 0 ∷ reads 0 0 ∷ returns 0 ∷ spawns 0 ∷ reads 0 0 ∷ reads 0 0 ∷ returns 0 ∷ syncs 0 ∷ returns 0 ∷ [], (0, 10 ∷ 6 ∷ 1 ∷ 4 ∷ []))
    -- the same frames' steps with steals: the same pair. The sync suspends, and is counted when it passes
    ∷ (
      spawns 0 ∷ steals 1 0 ∷ spawns 1 ∷ steals 2 1 ∷ spawns 2 ∷ reads 0 0 ∷ reads 1 0 ∷ reads 2 0 ∷ reads 0 0 ∷ returns 0 ∷ reads 2 0 ∷ returns 2 ∷ syncs 2 ∷ reads 1 0 ∷ returns 1 ∷ returns 1 ∷ [],
      (0, 10 ∷ 6 ∷ 1 ∷ 4 ∷ []),
    )
    -- R-3: Main waits in its return for its child, and ends with it at the child's clock
    ∷ (spawns 0 ∷ steals 1 0 ∷ reads 1 0 ∷ returns 1 ∷ reads 0 0 ∷ reads 0 0 ∷ reads 0 0 ∷ returns 0 ∷ [], (0, 5 ∷ 4 ∷ 1 ∷ 1 ∷ []))
    ∷ []

tables_hold : map (λ (r : Row). seen r.0) table ≡ map (λ (r : Row). r.1) table
unfolding table report_on report_with timed_over timed_with rise start_on start_with records_from record_of decode_at spawn_on end_at upward end_bottom return_on steal_on sync_on read_on write_on fold_on step_on add_child spawn remove_frame end_frame go_on went_on steal sync synced fold relink_from eldest_to first_from next_after fold_view shift_up drop_top pop top bottom side child sibling bit leaf_of read_at retain release set_refcount path_node copy_path set_value set_link renew first_shared rest write_from write init_pool init_free init_leaves init_inner init_level set_node height width tree_nodes init_deques init_frames init_places push set_size set_place size place set_frame frame_at refcount left right content links set_content
tables_hold = refl

-- ---- refused before anything changes

-- the lengths of numbers, deques, table, values, pool, tape, work slice, answers, clocks and report, the workers, and the result
pub record Refused : Type 0 where
  pub parts : ℕ × ℕ × ℕ
  pub workers : ℕ
  pub values : ℕ
  pub words : ℕ
  pub bytes : ℕ
  pub lent : ℕ × ℕ × ℕ × ℕ
  pub result : ℕ

abbrev parts_of : Refused → State
parts_of r = record { numbers = replicate r.parts.0 3; deques = replicate r.parts.1 3; frames = (parts_with r.parts.2).frames }

abbrev lent_of : Refused → Lent
lent_of r = record { work = replicate r.lent.0 5; answers = replicate r.lent.1 9; clocks = replicate r.lent.2 6; report = replicate r.lent.3 8 }

-- "refused so it hands out a state of zeros"; table, pool and lent slices are as they were, and by 99 the parts too
abbrev left_by : Refused → ReportResult → Bool
left_by r o =
    same o.state.numbers (cond (eqb o.result 99) (parts_of r).numbers (replicate 10 0))
    && same o.state.deques (cond (eqb o.result 99) (parts_of r).deques (replicate 2056 0))
    && same (records_of o.state.frames) (records_of (parts_of r).frames)
    && same o.pool (replicate r.words 7)
    && same o.lent.work (lent_of r).work
    && same o.lent.answers (lent_of r).answers
    && same o.lent.clocks (lent_of r).clocks
    && same o.lent.report (lent_of r).report

abbrev refused_seen : Refused → ℕ × Bool
refused_seen r = let o : ReportResult = report_on two_words (parts_of r) r.workers (replicate r.values 1) (replicate r.words 7) (replicate r.bytes 0) (lent_of r) in (o.result, left_by r o)

abbrev row : ℕ × ℕ × ℕ → ℕ → ℕ → ℕ → ℕ → ℕ × ℕ × ℕ × ℕ → ℕ → Refused
row parts workers values words bytes lent result = record { parts = parts; workers = workers; values = values; words = words; bytes = bytes; lent = lent; result = result }

-- each beside those that come after it
refusals : List Refused
refusals =
    row (9, 2056, 2) 0 0 2 7 (0, 0, 4, 4) 99
    ∷ row (10, 2055, 2) 0 0 2 7 (0, 0, 4, 4) 99
    ∷ row (10, 2056, 2) 0 0 2 7 (0, 0, 3, 4) 99
    ∷ row (10, 2056, 2) 0 0 2 7 (0, 0, 5, 4) 99
    ∷ row (10, 2056, 2) 0 0 2 7 (0, 0, 4, 3) 99
    ∷ row (10, 2056, 2) 0 0 2 7 (0, 0, 4, 4) 1
    ∷ row (10, 2056, 0) 0 1 0 7 (0, 0, 0, 4) 2
    ∷ row (10, 2056, 0) 1 1 0 7 (0, 0, 0, 4) 21
    ∷ row (10, 2056, 2) 1 1 1 7 (0, 0, 4, 4) 3
    ∷ row (10, 2056, 2) 1 1 2 7 (0, 0, 4, 4) 4
    ∷ row (10, 2056, 2) 1 1 2 8 (0, 1, 4, 4) 4
    ∷ row (10, 2056, 2) 1 1 2 8 (0, 2, 4, 4) 5
    ∷ []

refusals_hold : map refused_seen refusals ≡ map (λ (r : Refused). (r.result, true)) refusals
unfolding refusals report_on report_with start_with tree_nodes height width
refusals_hold = refl
