-- The definitions on small tables and clock words, computed.
use Rattle.std.specs.Prelude.{◌≡◌, refl, true, false, List, [], ◌∷◌, ℕ, replicate}
use Rattle.words.specs.Basics.{none}
use Rattle.reducers.specs.Reducers.{identity_view}
use Rattle.frames.specs.declared.Frame.{Frame}
use Rattle.frames.specs.Widths.{deque_words}
use Rattle.frames.specs.Frames.{frame_at, main_frame, as_returning, with_suspended, with_outstanding}
use Rattle.frames.specs.Deques.{size, set_size, place, set_place, bottom, push}
use Rattle.semantics.specs.declared.Rise.{Rise}
use Rattle.semantics.specs.Timing.{rise, timed_with}
use Rattle.semantics.specs.Report.{report_words}
use Rattle.timing.specs.Turns.{timing, ticks_over}

-- ---- four frames, each the child of the one before it; the last is executed, the two before it wait in their returns, and Main, the first, is m

abbrev one : Frame
one = with_outstanding (main_frame 0) 1

abbrev waits : ℕ → ℕ → Frame
waits parent depth =
    record { live = 1; parent = parent; depth = depth; outstanding = 1; suspended = 1; root = 0; returning = 1; view = identity_view; younger = none }

abbrev table : Frame → List Frame
table m =
    m ∷ waits 0 1 ∷ waits 1 2 ∷ record { live = 1; parent = 2; depth = 3; outstanding = 0; suspended = 0; root = 0; returning = 0; view = identity_view; younger = none } ∷ []

-- each one's own clock and the latest of its ended children's
abbrev clocks : List ℕ
clocks = 14 ∷ 0 ∷ 7 ∷ 12 ∷ 10 ∷ 3 ∷ 6 ∷ 8 ∷ []

-- the last one ends at 8, its parent at 10, and that one's at 12: Main goes on
rise_two : rise 3 (table one) clocks 3 8 ≡ record { place = 0; passes = false; clock = 12 }
unfolding rise frame_at
rise_two = refl

-- Main waits at a sync, which then passes
rise_to_sync : rise 3 (table (with_suspended one 1)) clocks 3 8 ≡ record { place = 0; passes = true; clock = 12 }
unfolding rise frame_at
rise_to_sync = refl

-- Main waits for two children: its sync does not pass
rise_to_sibling : rise 3 (table (with_suspended (with_outstanding one 2) 1)) clocks 3 8 ≡ record { place = 0; passes = false; clock = 12 }
unfolding rise frame_at
rise_to_sibling = refl

-- Main waits in its return, and ends too
rise_to_end : rise 3 (table (as_returning one)) clocks 3 8 ≡ record { place = none; passes = false; clock = 14 }
unfolding rise frame_at
rise_to_end = refl

-- ---- what a step does: two frames, Main, whose child has ended at 9, and another; 20 of work, no span yet

abbrev two : List ℕ
two = 5 ∷ 9 ∷ 6 ∷ 0 ∷ []

-- a return that ends the frame at place 1 at 6
abbrev stops : Rise
stops = record { place = 0; passes = false; clock = 6 }

-- a read, a write and a fold: "costs 1"
read : timed_with (105, 33) 1 2 stops (timing two 20 0) ≡ timing (5 ∷ 9 ∷ 7 ∷ 0 ∷ []) 21 0
unfolding timed_with
read = refl

fold : timed_with (107, 0) 0 2 stops (timing two 20 0) ≡ timing (6 ∷ 9 ∷ 6 ∷ 0 ∷ []) 21 0
unfolding timed_with
fold = refl

-- "A child's clock begins at its parent's after the spawn.": at place 1, whatever was there
spawn : timed_with (101, 1) 0 1 stops (timing (5 ∷ 9 ∷ 80 ∷ 90 ∷ []) 20 0) ≡ timing (6 ∷ 9 ∷ 6 ∷ 0 ∷ []) 21 0
unfolding timed_with
spawn = refl

-- a return costs 0; its parent hears 6, and has heard 9
return : timed_with (102, 1) 1 2 stops (timing two 20 0) ≡ timing two 20 0
unfolding timed_with
return = refl

-- its parent's sync passes, at the latest of 5, 9 and 11, "then adds 1"
return_passes : timed_with (102, 2) 1 2 (record { place = 0; passes = true; clock = 11 }) (timing two 20 0) ≡ timing (12 ∷ 11 ∷ 6 ∷ 0 ∷ []) 20 0
unfolding timed_with
return_passes = refl

-- "span is Main's clock at its return"
return_main : timed_with (102, 3) 0 2 (record { place = none; passes = false; clock = 9 }) (timing two 20 0) ≡ timing two 20 9
unfolding timed_with
return_main = refl

-- a return that waits
return_waits : timed_with (102, 4) 0 2 stops (timing two 20 0) ≡ timing two 20 0
unfolding timed_with
return_waits = refl

steal : timed_with (103, 0) 0 2 stops (timing two 20 0) ≡ timing two 20 0
unfolding timed_with
steal = refl

-- a sync that passes, at 9; one that waits costs 1 and moves no clock
sync : timed_with (104, 0) 0 2 stops (timing two 20 0) ≡ timing (10 ∷ 9 ∷ 6 ∷ 0 ∷ []) 21 0
unfolding timed_with
sync = refl

sync_waits : timed_with (104, 1) 0 2 stops (timing two 20 0) ≡ timing two 21 0
unfolding timed_with
sync_waits = refl

-- a refusal
refused : timed_with (12, 0) 0 2 stops (timing two 20 0) ≡ timing two 20 0
unfolding timed_with
refused = refl

-- ---- reads, writes and folds in turn: worker 0 executes the frame at place 0, worker 1 that at place 1

deques : List ℕ
deques = push (push (replicate deque_words 0) 0 0) 1 1

-- a read by worker 1, a write by worker 0 that is refused, and a fold by worker 1, after a record that is not among them
over : ticks_over deques (4 ∷ 0 ∷ 0 ∷ 0 ∷ 0 ∷ 0 ∷ 0 ∷ 0 ∷ 5 ∷ 1 ∷ 0 ∷ 0 ∷ 0 ∷ 0 ∷ 0 ∷ 0 ∷ 6 ∷ 0 ∷ 0 ∷ 0 ∷ 0 ∷ 0 ∷ 0 ∷ 0 ∷ 7 ∷ 1 ∷ 0 ∷ 0 ∷ 0 ∷ 0 ∷ 0 ∷ 0 ∷ []) (104 ∷ 0 ∷ 105 ∷ 33 ∷ 14 ∷ 0 ∷ 107 ∷ 0 ∷ []) 1 3 (timing two 20 0)
    ≡ timing (5 ∷ 9 ∷ 8 ∷ 0 ∷ []) 22 0
unfolding ticks_over deques bottom place size push set_size set_place
over = refl

-- ---- the report: 22 is 2 times 9 and 4

report : report_words (timing two 22 9) ≡ 22 ∷ 9 ∷ 2 ∷ 4 ∷ []
report = refl
