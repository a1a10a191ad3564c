-- Demand 3 is not empty: its hypotheses hold of document 01's example, entered as one tape, of one in which frames wait in their return (R-3), of one
-- with folds (R-5), whose totals it gives, and of one in a table that is full (R-6).
use Rattle.std.specs.Prelude.{◌≡◌, refl, true, cond, List, [], ◌∷◌, ℕ, zero, suc, ◌<◌, replicate, eqb, ltb}
use Rattle.std.proofs.Common.{sym, ap, ◌∙◌, subst, arith}
use mathlib.Core.List.Memᴰ.{head as here}
use mathlib.Core.List.Memᴰ.{tail as there}
use mathlib.Core.List.{Memᴰ as In}
use Rattle.words.specs.Basics.{joined, below}
use Rattle.words.specs.Below.{Below, Words}
use Rattle.words.specs.Tests.{both, lt_of}
use Rattle.sizes.specs.Sizes.{height, width, tree_nodes, bit}
use Rattle.pool.specs.Pool.{side}
use Rattle.packed.specs.Pool.{refcount, links, content, left, right, set_node, set_refcount, child, sibling, leaf_of, read_at, retain, release, path_node, copy_path, set_value, set_link, renew, first_shared, rest, write_from, write, init_level, init_inner, init_leaves, init_free, init_pool, set_content}
use Rattle.reducers.specs.Reducers.{fold_view}
use Rattle.frames.specs.Frames.{frame_at, set_frame, init_places, init_frames}
use Rattle.frames.specs.Deques.{size, set_size, place, set_place, bottom, top, push, pop, shift_up, drop_top, init_deques}
use Rattle.frames.specs.Siblings.{relink_from, eldest_to, first_from, next_after}
use Rattle.frames.specs.Steps.{add_child, spawn, remove_frame, end_frame, go_on, went_on, steal, sync, synced, fold}
use Rattle.soundness.specs.Soundness.{cleared}
use Rattle.model.specs.Record.{record_of, decode_at}
use Rattle.model.specs.Steps.{refusal}
use Rattle.model.specs.Steps.{step as plainStep}
use Rattle.model.specs.Views.{Folded, main_folds}
use Rattle.semantics.specs.Core.{spawn_on, end_at, upward, end_bottom, return_on, steal_on, sync_on, read_on, write_on, fold_on, step_on}
use Rattle.semantics.specs.Entries.{totals_of, start_on, start_with, records_of, records_from, run_on, TapeResult}
use Rattle.semantics.specs.Calls.{Start, start_result, tape, Exchange, Call, call, exchanges_from, answers_in, trace_from}
use Rattle.semantics.specs.Demands.{plain_start, run_from, trace_of, MainReturned, one_worker_calls, alone_start, total_words, Demand3}
use Rattle.semantics.proofs.Theory.StartedRuns.{demand3}
use Rattle.starred.specs.Tapes.{spawns, returns, steals, syncs, reads, writes, folds, folds_map, parts_with, any_parts, any_pool, five}
use Rattle.starred.specs.Quick.{quick_tape, tape_quick}
use Rattle.soundness.specs.Layout.{two_words}
use Rattle.semantics.proofs.Theory.TwoPools.{two_pools}

-- "2 workers, 5 splitters, 20 nodes, values 10 20 30 40 50"
abbrev pub example : Start
example = record { parts = any_parts; workers = 2; values = five; pool = any_pool 20 }

-- "worker 0 spawns; 1 steals from 0; 1 writes 99 to splitter 4; 0 reads 4; 1 syncs; 1 reads 4; 0 returns; 0 reads 4; 0 returns"
abbrev pub example_bytes : List ℕ
example_bytes = joined (spawns 0 ∷ steals 1 0 ∷ writes 1 4 99 ∷ reads 0 4 ∷ syncs 1 ∷ reads 1 4 ∷ returns 0 ∷ reads 0 4 ∷ returns 0 ∷ [])

pub example_calls : List Call
example_calls = call (tape example_bytes (replicate 20 5) (replicate 18 9)) ∷ []

started : (start_result two_words example).result ≡ 0
unfolding start_on start_with tree_nodes height width
started = refl

abbrev answers_of : List ℕ → TapeResult → List (ℕ × ℕ)
answers_of bytes o = answers_in (cond (eqb o.result 0) (exchanges_from o.answers 0 (records_of bytes)) [])

-- without the check
quickly : answers_of example_bytes (quick_tape example example_bytes (replicate 20 5) (replicate 18 9)) ≡ (101, 1) ∷ (103, 0) ∷ (106, 5) ∷ (105, 50) ∷ (104, 1) ∷ (10, 0) ∷ (102, 2) ∷ (105, 99) ∷ (102, 3) ∷ []
unfolding start_on start_with run_on records_from record_of decode_at spawn_on end_at upward end_bottom return_on steal_on sync_on read_on write_on fold_on step_on add_child spawn remove_frame end_frame go_on went_on steal sync synced fold relink_from eldest_to first_from next_after fold_view shift_up drop_top pop top bottom side child sibling bit leaf_of read_at retain release set_refcount path_node copy_path set_value set_link renew first_shared rest write_from write init_pool init_free init_leaves init_inner init_level set_node height width tree_nodes init_deques init_frames init_places push set_size set_place size place set_frame frame_at cleared refcount left right content links set_content
quickly = refl

-- the lines of the example
pub answered : answers_in (run_from two_words example example_calls).past.exchanges ≡ (101, 1) ∷ (103, 0) ∷ (106, 5) ∷ (105, 50) ∷ (104, 1) ∷ (10, 0) ∷ (102, 2) ∷ (105, 99) ∷ (102, 3) ∷ []
unfolding example_calls
answered = ap (answers_of example_bytes) (tape_quick example example_bytes (replicate 20 5) (replicate 18 9)) ∙ quickly

main-returned : MainReturned two_words example example_calls
main-returned = subst (In (102, 3)) (sym answered) (there (there (there (there (there (there (there (there (here refl)))))))))

-- by the test of each element
below_of : (N : ℕ) (xs : List ℕ) → 0 < N → below N xs ≡ true → Below N xs
below_of N [] p e i = p
below_of N (x ∷ xs) p e zero = lt_of (both (ltb x N) (below N xs) e).0
below_of N (x ∷ xs) p e (suc i) = below_of N xs p (both (ltb x N) (below N xs) e).1 i

words_are : (xs : List ℕ) → below 4294967296 xs ≡ true → Words xs
words_are xs e = below_of 4294967296 xs (omega arith) e

pub demand3_example : Demand3 two_words example example_calls any_parts (any_pool 20) (λ j. replicate 20 0)
unfolding example_calls
demand3_example = demand3 two_words two_pools example example_calls any_parts (any_pool 20) (λ j. replicate 20 0) started (words_are five refl, words_are (any_pool 20) refl) (below_of 256 example_bytes (omega arith) refl, tt) main-returned refl refl refl (λ j. omega arith)

-- ---- R-3

-- worker 0 spawns; 1 steals Main from 0, writes 99 to splitter 4 and returns: Main waits; 0 writes 61 to 4 and spawns; 1 steals Main's child from
-- 0, reads 4 and returns: it waits too; 0 reads 4 and returns: all three end
abbrev pub waiting_bytes : List ℕ
waiting_bytes =
    joined (spawns 0 ∷ steals 1 0 ∷ writes 1 4 99 ∷ returns 1 ∷ writes 0 4 61 ∷ spawns 0 ∷ steals 1 0 ∷ reads 1 4 ∷ returns 1 ∷ reads 0 4 ∷ returns 0 ∷ reads 0 4 ∷ [])

pub waiting_calls : List Call
waiting_calls = call (tape waiting_bytes (replicate 20 5) (replicate 24 9)) ∷ []

waiting_quickly :
    answers_of waiting_bytes (quick_tape example waiting_bytes (replicate 20 5) (replicate 24 9))
    ≡ (101, 1) ∷ (103, 0) ∷ (106, 5) ∷ (102, 4) ∷ (106, 5) ∷ (101, 2) ∷ (103, 1) ∷ (105, 61) ∷ (102, 4) ∷ (105, 61) ∷ (102, 3) ∷ (9, 0) ∷ []
unfolding start_on start_with run_on records_from record_of decode_at spawn_on end_at upward end_bottom return_on steal_on sync_on read_on write_on fold_on step_on add_child spawn remove_frame end_frame go_on went_on steal sync synced fold relink_from eldest_to first_from next_after fold_view shift_up drop_top pop top bottom side child sibling bit leaf_of read_at retain release set_refcount path_node copy_path set_value set_link renew first_shared rest write_from write init_pool init_free init_leaves init_inner init_level set_node height width tree_nodes init_deques init_frames init_places push set_size set_place size place set_frame frame_at cleared refcount left right content links set_content
waiting_quickly = refl

pub waiting-answered :
    answers_in (run_from two_words example waiting_calls).past.exchanges
    ≡ (101, 1) ∷ (103, 0) ∷ (106, 5) ∷ (102, 4) ∷ (106, 5) ∷ (101, 2) ∷ (103, 1) ∷ (105, 61) ∷ (102, 4) ∷ (105, 61) ∷ (102, 3) ∷ (9, 0) ∷ []
unfolding waiting_calls
waiting-answered = ap (answers_of waiting_bytes) (tape_quick example waiting_bytes (replicate 20 5) (replicate 24 9)) ∙ waiting_quickly

-- "Main has returned once it has ended, with outcome 3"
waiting-returned : MainReturned two_words example waiting_calls
waiting-returned = subst (In (102, 3)) (sym waiting-answered) (there (there (there (there (there (there (there (there (there (there (here refl)))))))))))

pub demand3_waiting : Demand3 two_words example waiting_calls any_parts (any_pool 20) (λ j. replicate 20 0)
unfolding waiting_calls
demand3_waiting = demand3 two_words two_pools example waiting_calls any_parts (any_pool 20) (λ j. replicate 20 0) started (words_are five refl, words_are (any_pool 20) refl) (below_of 256 waiting_bytes (omega arith) refl, tt) waiting-returned refl refl refl (λ j. omega arith)

-- ---- R-5

-- 3 workers, one splitter, one node
abbrev pub folding_start : Start
folding_start = record { parts = any_parts; workers = 3; values = 7 ∷ []; pool = any_pool 1 }

-- Main folds 2x + 1 and 10 and spawns A; 1 steals Main, which folds 3x and 9 and spawns B; 2 steals Main, which folds x + 5; B folds 7x + 1 and spawns C, which
-- folds 11x + 3; A folds 5x + 2 and 4 and returns; 0 steals B, which folds 13x and 20 and returns: it waits; C returns, and Main
abbrev pub folding_bytes : List ℕ
folding_bytes =
    joined
    (folds_map 0 2 1 ∷ folds 0 0 10 ∷ spawns 0 ∷ steals 1 0 ∷ folds_map 1 3 0 ∷ folds 1 1 9 ∷ spawns 1 ∷ steals 2 1 ∷ folds_map 2 1 5 ∷ folds_map 1 7 1 ∷ spawns 1 ∷ folds_map 1 11 3 ∷ folds_map 0 5 2 ∷ folds 0 1 4 ∷ returns 0 ∷ steals 0 1 ∷ folds_map 0 13 0 ∷ folds 0 0 20 ∷ returns 0 ∷ returns 1 ∷ returns 2 ∷ [])

pub folding_calls : List Call
folding_calls = call (tape folding_bytes (replicate 1 5) (replicate 42 9)) ∷ []

folding_started : (start_result two_words folding_start).result ≡ 0
unfolding start_on start_with tree_nodes height width
folding_started = refl

abbrev folded_in : TapeResult → List Exchange
folded_in o = cond (eqb o.result 0) (exchanges_from o.answers 0 (records_of folding_bytes)) []

-- the folds of Main's child-first list: Main's, A's, Main's, B's, C's, B's, Main's; a map as the value 65,536 times its multiplier plus its addend
abbrev pub folds_in_order : List Folded
folds_in_order = (2, 131073) ∷ (0, 10) ∷ (2, 327682) ∷ (1, 4) ∷ (2, 196608) ∷ (1, 9) ∷ (2, 458753) ∷ (2, 720899) ∷ (2, 851968) ∷ (0, 20) ∷ (2, 65541) ∷ []

folding_quickly : main_folds (trace_from (plain_start two_words folding_start) (folded_in (quick_tape folding_start folding_bytes (replicate 1 5) (replicate 42 9)))) ≡ folds_in_order
unfolding refusal plainStep start_on start_with run_on records_from record_of decode_at spawn_on end_at upward end_bottom return_on steal_on sync_on read_on write_on fold_on step_on add_child spawn remove_frame end_frame go_on went_on steal sync synced fold relink_from eldest_to first_from next_after fold_view shift_up drop_top pop top bottom side child sibling bit leaf_of read_at retain release set_refcount path_node copy_path set_value set_link renew first_shared rest write_from write init_pool init_free init_leaves init_inner init_level set_node height width tree_nodes init_deques init_frames init_places push set_size set_place size place set_frame frame_at cleared refcount left right content links set_content
folding_quickly = refl

folding_order : main_folds (trace_of two_words folding_start folding_calls) ≡ folds_in_order
unfolding folding_calls
folding_order = ap (λ o. main_folds (trace_from (plain_start two_words folding_start) (folded_in o))) (tape_quick folding_start folding_bytes (replicate 1 5) (replicate 42 9)) ∙ folding_quickly

-- the last answer
folding_answers : answers_in (folded_in (quick_tape folding_start folding_bytes (replicate 1 5) (replicate 42 9))) ≡
    (107, 0) ∷ (107, 0) ∷ (101, 1) ∷ (103, 0) ∷ (107, 0) ∷ (107, 0) ∷ (101, 1) ∷ (103, 0) ∷ (107, 0) ∷ (107, 0) ∷ (101, 2) ∷ (107, 0) ∷ (107, 0) ∷ (107, 0) ∷ (102, 1) ∷ (103, 1) ∷ (107, 0) ∷ (107, 0) ∷ (102, 4) ∷ (102, 1) ∷ (102, 3) ∷ []
unfolding start_on start_with run_on records_from record_of decode_at spawn_on end_at upward end_bottom return_on steal_on sync_on read_on write_on fold_on step_on add_child spawn remove_frame end_frame go_on went_on steal sync synced fold relink_from eldest_to first_from next_after fold_view shift_up drop_top pop top bottom side child sibling bit leaf_of read_at retain release set_refcount path_node copy_path set_value set_link renew first_shared rest write_from write init_pool init_free init_leaves init_inner init_level set_node height width tree_nodes init_deques init_frames init_places push set_size set_place size place set_frame frame_at cleared refcount left right content links set_content
folding_answers = refl

folding_returned : MainReturned two_words folding_start folding_calls
unfolding folding_calls
folding_returned =
    subst (In (102, 3)) (sym (ap (λ o. answers_in (folded_in o)) (tape_quick folding_start folding_bytes (replicate 1 5) (replicate 42 9)) ∙ folding_answers))
    (there (there (there (there (there (there (there (there (there (there (there (there (there (there (there (there (there (there (there (there (here refl)))))))))))))))))))))

pub demand3_folding : Demand3 two_words folding_start folding_calls any_parts (any_pool 1) (λ j. replicate 1 0)
unfolding folding_calls
demand3_folding = demand3 two_words two_pools folding_start folding_calls any_parts (any_pool 1) (λ j. replicate 1 0) folding_started (words_are (7 ∷ []) refl, words_are (any_pool 1) refl) (below_of 256 folding_bytes (omega arith) refl, tt) folding_returned refl refl refl (λ j. omega arith)

-- by demand 3, in this run and in the one-worker run: 10 + 20, the minimum of 4 and 9, and the maps one after the other, 30,030x + 21,208
pub folding_totals : totals_of (run_from two_words folding_start folding_calls).now.state ≡ 30 ∷ 4 ∷ 30030 ∷ 21208 ∷ []
unfolding folding_calls
folding_totals = demand3_folding.totals refl ∙ ap total_words folding_order

pub folding_totals_alone :
    totals_of (run_from two_words (alone_start folding_start any_parts (any_pool 1)) (one_worker_calls (trace_of two_words folding_start folding_calls) (λ j. replicate 1 0))).now.state ≡ 30 ∷ 4 ∷ 30030 ∷ 21208 ∷ []
folding_totals_alone = demand3_folding.totals_alone ∙ ap total_words folding_order

-- ---- R-6

-- 2 workers, one splitter, two nodes, a table of 2 places
abbrev pub full_start : Start
full_start = record { parts = parts_with 2; workers = 2; values = 7 ∷ []; pool = any_pool 2 }

-- worker 0 spawns, and spawns in vain; 1 steals Main, which spawns in vain; 0 writes 61 and returns; Main spawns, and this child reads and returns; Main reads
-- and returns
abbrev pub full_bytes : List ℕ
full_bytes = joined (spawns 0 ∷ spawns 0 ∷ steals 1 0 ∷ spawns 1 ∷ writes 0 0 61 ∷ returns 0 ∷ spawns 1 ∷ reads 1 0 ∷ returns 1 ∷ reads 1 0 ∷ returns 1 ∷ [])

pub full_calls : List Call
full_calls = call (tape full_bytes (replicate 2 5) (replicate 22 9)) ∷ []

full_started : (start_result two_words full_start).result ≡ 0
unfolding start_on start_with tree_nodes height width
full_started = refl

full_quickly : answers_of full_bytes (quick_tape full_start full_bytes (replicate 2 5) (replicate 22 9)) ≡ (101, 1) ∷ (13, 0) ∷ (103, 0) ∷ (13, 0) ∷ (106, 0) ∷ (102, 1) ∷ (101, 1) ∷ (105, 7) ∷ (102, 0) ∷ (105, 7) ∷ (102, 3) ∷ []
unfolding start_on start_with run_on records_from record_of decode_at spawn_on end_at upward end_bottom return_on steal_on sync_on read_on write_on fold_on step_on add_child spawn remove_frame end_frame go_on went_on steal sync synced fold relink_from eldest_to first_from next_after fold_view shift_up drop_top pop top bottom side child sibling bit leaf_of read_at retain release set_refcount path_node copy_path set_value set_link renew first_shared rest write_from write init_pool init_free init_leaves init_inner init_level set_node height width tree_nodes init_deques init_frames init_places push set_size set_place size place set_frame frame_at cleared refcount left right content links set_content
full_quickly = refl

pub full_answered : answers_in (run_from two_words full_start full_calls).past.exchanges ≡ (101, 1) ∷ (13, 0) ∷ (103, 0) ∷ (13, 0) ∷ (106, 0) ∷ (102, 1) ∷ (101, 1) ∷ (105, 7) ∷ (102, 0) ∷ (105, 7) ∷ (102, 3) ∷ []
unfolding full_calls
full_answered = ap (answers_of full_bytes) (tape_quick full_start full_bytes (replicate 2 5) (replicate 22 9)) ∙ full_quickly

full_returned : MainReturned two_words full_start full_calls
full_returned = subst (In (102, 3)) (sym full_answered) (there (there (there (there (there (there (there (there (there (there (here refl)))))))))))

-- "The one-worker run has as many places."
pub demand3_full : Demand3 two_words full_start full_calls (parts_with 2) (any_pool 2) (λ j. replicate 2 0)
unfolding full_calls
demand3_full = demand3 two_words two_pools full_start full_calls (parts_with 2) (any_pool 2) (λ j. replicate 2 0) full_started (words_are (7 ∷ []) refl, words_are (any_pool 2) refl) (below_of 256 full_bytes (omega arith) refl, tt) full_returned refl refl refl (λ j. omega arith)
