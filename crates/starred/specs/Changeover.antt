-- R-9, computed: pools of four-word nodes changed over; a run in the old layout, the change-over, and what follows; refusals 99, 5 and 6.
use Rattle.std.specs.Prelude.{◌≡◌, refl, Bool, true, cond, ◌&&◌, List, [], ◌∷◌, ◌++◌, map, ℕ, ◌*◌, length, take, drop, set, replicate, eqb}
use Rattle.words.specs.Basics.{none, same, joined, δ, count}
use Rattle.sizes.specs.Sizes.{height, width, tree_nodes, bit}
use Rattle.pool.specs.Pool.{side}
use Rattle.pool.specs.Pool as Four
use Rattle.packed.specs.Pool as Two
use Rattle.packed.specs.Pack.{packed_content, packed_from, converted}
use Rattle.frames.specs.Frames.{frame_at, set_frame, init_places, init_frames}
use Rattle.frames.specs.Deques.{size, set_size, place, set_place, bottom, top, push, pop, shift_up, drop_top, init_deques}
use Rattle.frames.specs.Siblings.{chained, relink_from, eldest_to, first_from, next_after}
use Rattle.frames.specs.Steps.{add_child, spawn, remove_frame, end_frame, go_on, went_on, steal, sync, synced}
use Rattle.soundness.specs.Layout.{Layout, pool_sound, four_words, two_words}
use Rattle.soundness.specs.Soundness.{one_main, parents_live, counts_right, placed_once, returning_right, links_right, totals_right, hold_live, absent_empty, rest_zero, linked, only_below, places_free, numbers_sound, frames_sound, roots_below, sound, checked, cleared}
use Rattle.soundness.specs.Trees as FourTrees
use Rattle.soundness.specs.PackedTrees as TwoTrees
use Rattle.model.specs.Record.{record_of, decode_at}
use Rattle.semantics.specs.Core.{spawn_on, end_at, upward, end_bottom, return_on, steal_on, write_on, read_on, sync_on, step_on}
use Rattle.semantics.specs.Entries.{State, start_on, start_with, records_from, run_on, TapeResult, tape_on, tape_with}
use Rattle.semantics.specs.Calls.{StateAndPool, after_start, tape_result}
use Rattle.semantics.specs.Convert.{ConvertResult, convert_on, convert_with}
use Rattle.starred.specs.Tapes.{spawns, returns, steals, syncs, reads, writes}
use Rattle.starred.specs.TwoWords.{both, starts_with, two_splitters, three_splitters, two_in_four, three_in_four, TapeRow, tape_rows}

-- ---- pools

-- "turn it into two-word nodes in the front of the same slice, the old nodes' remaining words zero"; "Words past the old nodes never change."
pub starts_converted : (converted 5 (two_in_four ++ (7 ∷ [])) ≡ two_splitters ++ (replicate 10 0 ++ (7 ∷ []))) × (converted 7 (three_in_four ++ (7 ∷ [])) ≡ three_splitters ++ (replicate 14 0 ++ (7 ∷ [])))
unfolding converted packed_from packed_content Four.refcount Four.left Four.right Four.value Two.links
starts_converted = (refl, refl)

-- the pools of both layouts after tapes (TwoWords)
pub tapes-converted : map (λ (r : TapeRow). converted r.nodes r.four) tape_rows ≡ map (λ (r : TapeRow). r.two ++ replicate (2 * r.nodes) 0) tape_rows
unfolding tape_rows converted packed_from packed_content Four.refcount Four.left Four.right Four.value Two.links
tapes-converted = refl

-- ---- a run

-- 2 workers, 2 splitters, 7 nodes and a word more. Worker 0 spawns, 1 steals Main; the child writes 91 on the left; Main waits at a sync
abbrev before : List (List ℕ)
before = spawns 0 ∷ steals 1 0 ∷ writes 0 0 91 ∷ syncs 1 ∷ []

-- the child writes 92 on the right and reads both; it returns, and Main goes on past its sync with its own values, writes 81 and returns
abbrev after : List (List ℕ)
after = writes 0 1 92 ∷ reads 0 0 ∷ reads 0 1 ∷ returns 0 ∷ reads 0 0 ∷ reads 0 1 ∷ writes 0 0 81 ∷ reads 0 0 ∷ returns 0 ∷ []

abbrev plays : Layout → StateAndPool → List (List ℕ) → TapeResult
plays L h records = tape_result L h (joined records) (replicate 7 5) (replicate (2 * length records) 9)

abbrev begun : Layout → StateAndPool
begun L = after_start L (starts_with L (10 ∷ 20 ∷ []) 7)

-- the change-over
abbrev turned : TapeResult → ConvertResult
turned o = convert_on o.state o.pool (replicate 7 5)

-- and what follows it, in the new layout
abbrev goes_on : TapeResult → TapeResult
goes_on o = let c : ConvertResult = turned o in plays two_words (record { state = o.state; pool = c.pool }) after

abbrev old : TapeResult
old = plays four_words (begun four_words) before

abbrev new : TapeResult
new = plays two_words (begun two_words) before

-- the nodes after the first part: Main's root and leaves, the right one shared; the child's root 3 and its left leaf 4; two free nodes
abbrev nodes : List ℕ
nodes = 1 ∷ both 1 2 ∷ 1 ∷ 10 ∷ 2 ∷ 20 ∷ 1 ∷ both 4 2 ∷ 1 ∷ 91 ∷ 0 ∷ 6 ∷ 0 ∷ none ∷ []

pub changed_pool : turned old ≡ record { pool = nodes ++ (replicate 14 0 ++ (7 ∷ [])); work = replicate 7 0; result = 0 }
unfolding converted packed_from packed_content convert_on convert_with tape_on tape_with checked sound numbers_sound frames_sound pool_sound one_main parents_live counts_right placed_once returning_right links_right totals_right chained hold_live absent_empty rest_zero linked only_below places_free roots_below cleared TwoTrees.tree_at TwoTrees.nodes_on TwoTrees.is_on FourTrees.tree_at FourTrees.nodes_at start_on start_with records_from run_on record_of decode_at spawn_on end_at upward end_bottom return_on steal_on write_on read_on sync_on step_on add_child spawn remove_frame end_frame go_on went_on steal sync synced relink_from eldest_to first_from next_after shift_up drop_top pop top bottom side bit height width tree_nodes init_deques init_frames init_places push set_size set_place size place set_frame frame_at δ count Two.refcount Two.content Two.left Two.right Two.links Two.set_node Two.set_refcount Two.set_content Two.child Two.sibling Two.retain Two.release Two.path_node Two.copy_path Two.set_value Two.set_link Two.renew Two.first_shared Two.rest Two.write_from Two.write Two.leaf_of Two.read_at Two.init_level Two.init_inner Two.init_leaves Two.init_free Two.init_pool Four.refcount Four.left Four.right Four.value Four.set_node Four.set_refcount Four.child Four.sibling Four.retain Four.release Four.path_node Four.copy_path Four.set_value Four.set_link Four.renew Four.first_shared Four.rest Four.write_from Four.write Four.leaf_of Four.read_at Four.init_level Four.init_inner Four.init_leaves Four.init_free Four.init_pool
changed_pool = refl

pub new_pool : new.pool ≡ nodes ++ (7 ∷ [])
unfolding converted packed_from packed_content convert_on convert_with tape_on tape_with checked sound numbers_sound frames_sound pool_sound one_main parents_live counts_right placed_once returning_right links_right totals_right chained hold_live absent_empty rest_zero linked only_below places_free roots_below cleared TwoTrees.tree_at TwoTrees.nodes_on TwoTrees.is_on FourTrees.tree_at FourTrees.nodes_at start_on start_with records_from run_on record_of decode_at spawn_on end_at upward end_bottom return_on steal_on write_on read_on sync_on step_on add_child spawn remove_frame end_frame go_on went_on steal sync synced relink_from eldest_to first_from next_after shift_up drop_top pop top bottom side bit height width tree_nodes init_deques init_frames init_places push set_size set_place size place set_frame frame_at δ count Two.refcount Two.content Two.left Two.right Two.links Two.set_node Two.set_refcount Two.set_content Two.child Two.sibling Two.retain Two.release Two.path_node Two.copy_path Two.set_value Two.set_link Two.renew Two.first_shared Two.rest Two.write_from Two.write Two.leaf_of Two.read_at Two.init_level Two.init_inner Two.init_leaves Two.init_free Two.init_pool Four.refcount Four.left Four.right Four.value Four.set_node Four.set_refcount Four.child Four.sibling Four.retain Four.release Four.path_node Four.copy_path Four.set_value Four.set_link Four.renew Four.first_shared Four.rest Four.write_from Four.write Four.leaf_of Four.read_at Four.init_level Four.init_inner Four.init_leaves Four.init_free Four.init_pool
new_pool = refl

-- "the steps that follow answer as if it had begun in the new layout"
abbrev answered : List ℕ
answered = 106 ∷ 1 ∷ 105 ∷ 91 ∷ 105 ∷ 92 ∷ 102 ∷ 2 ∷ 105 ∷ 10 ∷ 105 ∷ 20 ∷ 106 ∷ 4 ∷ 105 ∷ 81 ∷ 102 ∷ 3 ∷ []

pub changed_answers : (goes_on old).answers ≡ answered
unfolding converted packed_from packed_content convert_on convert_with tape_on tape_with checked sound numbers_sound frames_sound pool_sound one_main parents_live counts_right placed_once returning_right links_right totals_right chained hold_live absent_empty rest_zero linked only_below places_free roots_below cleared TwoTrees.tree_at TwoTrees.nodes_on TwoTrees.is_on FourTrees.tree_at FourTrees.nodes_at start_on start_with records_from run_on record_of decode_at spawn_on end_at upward end_bottom return_on steal_on write_on read_on sync_on step_on add_child spawn remove_frame end_frame go_on went_on steal sync synced relink_from eldest_to first_from next_after shift_up drop_top pop top bottom side bit height width tree_nodes init_deques init_frames init_places push set_size set_place size place set_frame frame_at δ count Two.refcount Two.content Two.left Two.right Two.links Two.set_node Two.set_refcount Two.set_content Two.child Two.sibling Two.retain Two.release Two.path_node Two.copy_path Two.set_value Two.set_link Two.renew Two.first_shared Two.rest Two.write_from Two.write Two.leaf_of Two.read_at Two.init_level Two.init_inner Two.init_leaves Two.init_free Two.init_pool Four.refcount Four.left Four.right Four.value Four.set_node Four.set_refcount Four.child Four.sibling Four.retain Four.release Four.path_node Four.copy_path Four.set_value Four.set_link Four.renew Four.first_shared Four.rest Four.write_from Four.write Four.leaf_of Four.read_at Four.init_level Four.init_inner Four.init_leaves Four.init_free Four.init_pool
changed_answers = refl

pub new_answers : (plays two_words (record { state = new.state; pool = new.pool }) after).answers ≡ answered
unfolding converted packed_from packed_content convert_on convert_with tape_on tape_with checked sound numbers_sound frames_sound pool_sound one_main parents_live counts_right placed_once returning_right links_right totals_right chained hold_live absent_empty rest_zero linked only_below places_free roots_below cleared TwoTrees.tree_at TwoTrees.nodes_on TwoTrees.is_on FourTrees.tree_at FourTrees.nodes_at start_on start_with records_from run_on record_of decode_at spawn_on end_at upward end_bottom return_on steal_on write_on read_on sync_on step_on add_child spawn remove_frame end_frame go_on went_on steal sync synced relink_from eldest_to first_from next_after shift_up drop_top pop top bottom side bit height width tree_nodes init_deques init_frames init_places push set_size set_place size place set_frame frame_at δ count Two.refcount Two.content Two.left Two.right Two.links Two.set_node Two.set_refcount Two.set_content Two.child Two.sibling Two.retain Two.release Two.path_node Two.copy_path Two.set_value Two.set_link Two.renew Two.first_shared Two.rest Two.write_from Two.write Two.leaf_of Two.read_at Two.init_level Two.init_inner Two.init_leaves Two.init_free Two.init_pool Four.refcount Four.left Four.right Four.value Four.set_node Four.set_refcount Four.child Four.sibling Four.retain Four.release Four.path_node Four.copy_path Four.set_value Four.set_link Four.renew Four.first_shared Four.rest Four.write_from Four.write Four.leaf_of Four.read_at Four.init_level Four.init_inner Four.init_leaves Four.init_free Four.init_pool
new_answers = refl

-- ---- refusals

-- a change-over of the start of two splitters in five nodes, with one thing changed, and its result
pub record ConvertRow : Type 0 where
  pub state : State
  pub pool : List ℕ
  pub work : List ℕ
  pub result : ℕ

abbrev started : State
started = (after_start four_words (starts_with four_words (10 ∷ 20 ∷ []) 5)).state

abbrev with_numbers : List ℕ → State
with_numbers ns = record { numbers = ns; deques = started.deques; frames = started.frames }

abbrev row : State → List ℕ → ℕ → ℕ → ConvertRow
row s ws words result = record { state = s; pool = ws; work = replicate words 5; result = result }

pub convert_rows : List ConvertRow
convert_rows =
    -- accepted, with just the words that the check needs, and with more
    row started two_in_four 5 0 ∷ row started (two_in_four ++ (7 ∷ 7 ∷ [])) 9 0 ∷
    -- 99 before 5: a number more
    row (with_numbers (started.numbers ++ (0 ∷ []))) two_in_four 4 99 ∷
    -- 5 before 6: a work slice of four words, and a pool that is not sound
    row started two_in_four 4 5 ∷ row started (set two_in_four 0 2) 4 5 ∷
    -- 6: holders of the root; the value of the root; a left link of a leaf; a free node with a right link, with a value; the pool a word too short
    row started (set two_in_four 0 2) 5 6 ∷ row started (set two_in_four 3 1) 5 6 ∷ row started (set two_in_four 5 2) 5 6 ∷ row started (set two_in_four 14 1) 5 6 ∷ row started (set two_in_four 15 1) 5 6 ∷
    row started (take 19 two_in_four) 5 6 ∷
    -- 6: six nodes are recorded, and the pool holds five; nine workers
    row (with_numbers (set started.numbers 2 6)) two_in_four 6 6 ∷ row (with_numbers (set started.numbers 0 9)) two_in_four 5 6 ∷
    -- 6: two-word nodes, and a pool that was changed over before
    row started two_splitters 5 6 ∷ row started (two_splitters ++ replicate 10 0) 5 6 ∷
    []

-- "a state refused so is left, and its pool too"; the work slice is cleared if the check was reached
abbrev leaves_all : ConvertRow → ConvertResult → Bool
leaves_all r o = same o.pool r.pool && same o.work (cond (eqb o.result 6) (replicate (length r.work) 0) r.work)

-- accepted, it leaves the new nodes, zeros and what was past the old nodes
abbrev turns : ConvertRow → ConvertResult → Bool
turns r o = same o.pool (two_splitters ++ (replicate 10 0 ++ drop 20 r.pool)) && same o.work (replicate 5 0 ++ drop 5 r.work)

abbrev convert_seen : ConvertRow → ConvertResult → ℕ × Bool
convert_seen r o = (o.result, cond (eqb o.result 0) (turns r o) (leaves_all r o))

pub convert_rows_lem : map (λ (r : ConvertRow). convert_seen r (convert_on r.state r.pool r.work)) convert_rows ≡ map (λ (r : ConvertRow). (r.result, true)) convert_rows
unfolding convert_rows converted packed_from packed_content convert_on convert_with checked sound numbers_sound frames_sound pool_sound one_main parents_live counts_right placed_once returning_right links_right totals_right chained hold_live absent_empty rest_zero linked only_below places_free roots_below cleared FourTrees.tree_at FourTrees.nodes_at start_on start_with side bit height width tree_nodes init_deques init_frames init_places push set_size set_place size place set_frame frame_at δ count Two.links Four.refcount Four.left Four.right Four.value Four.set_node Four.init_level Four.init_inner Four.init_leaves Four.init_free Four.init_pool
convert_rows_lem = refl
