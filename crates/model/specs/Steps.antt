-- What a step does on the plain machine: its refusal, the machine after it, its answer. Definitions only.
use Rattle.std.specs.Prelude.{Bool, true, false, cond, not, ◌||◌, ◌&&◌, List, [], ◌∷◌, ℕ, zero, suc, length, get_or, set, ltb}
use Rattle.model.specs.declared.Step.{Step}
use Rattle.model.specs.declared.Step.TheVariants.{Spawn, Return, Steal, Sync, Read, Write, Fold}
use Rattle.model.specs.History.{Event}
use Rattle.words.specs.Basics.{same}
use Rattle.model.specs.Machine.{Name, Frame, Machine, depth, live, deque, with_frames, with_deque, is_empty, top, below_top, has_child, has_frame, those, others, in_use, free_nodes}

-- what a worker's bottom frame does: a step without its worker, steals left out
pub data Action : Type 0 where
  spawn return sync : Action
  read : ℕ → Action
  write : ℕ → ℕ → Action
  -- R-5: "folds its value into the reducer named"
  fold : ℕ → ℕ → Action

-- a step is a worker's turn: its bottom frame acts, or it steals from a victim
pub data Turn : Type 0 where
  acting : ℕ → Action → Turn
  stealing : ℕ → ℕ → Turn

abbrev pub turn_of : Step → Turn
turn_of (Spawn w) = acting w spawn
turn_of (Return w) = acting w return
turn_of (Steal w v) = stealing w v
turn_of (Sync w) = acting w sync
turn_of (Read w x) = acting w (read x)
turn_of (Write w x v) = acting w (write x v)
turn_of (Fold w r x) = acting w (fold r x)

abbrev pub step_of : ℕ → Action → Step
step_of w spawn = Spawn w
step_of w return = Return w
step_of w sync = Sync w
step_of w (read x) = Read w x
step_of w (write x v) = Write w x v
step_of w (fold r x) = Fold w r x

-- ---- a write

-- a write of q to x: its mark is the number of writes before it in q's history, then its writer (History)
abbrev pub write_event : Frame → ℕ → Event
write_event q x = record { splitter = x; mark = length q.history ∷ q.name }

-- "Write alters one place of the bottom frame's list."
abbrev pub written : Frame → ℕ → ℕ → Frame
written q x v = record { name = q.name; values = set q.values x v; history = write_event q x ∷ q.history; spawned = q.spawned; returning = q.returning }

-- of q, the bottom of w's deque, above which is d
abbrev pub after_write : Machine → ℕ → Frame → List Frame → ℕ → ℕ → Machine
after_write M w q d x v = with_deque M w (written q x v ∷ d)

-- ---- "Refused, in checking order"

-- each test stands with what it gives: that of the first test that holds, or else x
abbrev pub first_true : {A : Type 0} → A → List (Bool × A) → A
first_true x [] = x
first_true x (t ∷ ts) = let r = first_true x ts in cond t.0 t.1 r

abbrev pub no_worker : Machine → ℕ → Bool
no_worker M w = not (ltb w (length M.deques))

abbrev pub not_below : ℕ → ℕ → Bool
not_below x n = not (ltb x n)

-- R-5: "Three reducers"
abbrev pub reducers : ℕ
reducers = 3

-- of the deque with bottom q:
-- 13. "The step is a spawn and 64 frames live."; not 64 but the frame table's length "is the limit in 13" (R-6)
-- 14 "no longer occurs" (R-3).
-- 15. "The step is a read or a write and the splitter is not below n."
-- 20. "kind 7 names no reducer, in the place of 15" (R-5).
-- 16. "when the write would bring that count above the pool's nodes" (R-2), the count being that of the nodes in use
abbrev pub action_tests : Machine → ℕ → List Frame → Action → List (Bool × ℕ)
action_tests M w [] a = []
action_tests M w (q ∷ d) spawn = (not_below (length (live M)) M.places, 13) ∷ []
action_tests M w (q ∷ d) return = []
action_tests M w (q ∷ d) sync = []
action_tests M w (q ∷ d) (read x) = (not_below x M.splitters, 15) ∷ []
action_tests M w (q ∷ d) (write x v) = (not_below x M.splitters, 15) ∷ (ltb M.nodes (in_use M.splitters (live (after_write M w q d x v))), 16) ∷ []
action_tests M w (q ∷ d) (fold r x) = (not_below r reducers, 20) ∷ []

-- 8. "The worker does not exist."
-- 9. "Main has returned." That is, no frame lives (Theory.MainEnds shows that this is outcome 3)
-- 10. "The step is not a steal and the worker is idle."
-- 11. "The step is a steal and the thief is not idle."
-- 12. "The victim does not exist or has fewer than two frames."
abbrev pub turn_tests : Machine → Turn → List (Bool × ℕ)
turn_tests M (acting w a) = (no_worker M w, 8) ∷ (is_empty (live M), 9) ∷ (is_empty (deque M w), 10) ∷ action_tests M w (deque M w) a
turn_tests M (stealing w v) = (no_worker M w, 8) ∷ (is_empty (live M), 9) ∷ (not (is_empty (deque M w)), 11) ∷ (no_worker M v || ltb (length (deque M v)) 2, 12) ∷ []

-- a refusal's number, and 0 if the step is accepted
unfoldable pub refusal : Machine → Step → ℕ
refusal M s = first_true 0 (turn_tests M (turn_of s))

abbrev pub accepted : ℕ → Bool
accepted zero = true
accepted (suc n) = false

-- ---- the machine after a step

-- "a new frame, child of the worker's bottom frame and one deeper"; "Spawn copies the parent's list as it is then", and
-- "A frame's history is its parent's history up to its spawn, then its own writes"
abbrev pub child : Frame → Frame
child q = record { name = suc q.spawned ∷ q.name; values = q.values; history = q.history; spawned = 0; returning = false }

-- its parent, one spawn on
abbrev pub after_spawn : Frame → Frame
after_spawn q = record { name = q.name; values = q.values; history = q.history; spawned = suc q.spawned; returning = q.returning }

-- "suspends the frame as returning"
abbrev pub as_returning : Frame → Frame
as_returning q = record { name = q.name; values = q.values; history = q.history; spawned = q.spawned; returning = true }

-- "it is suspended, its worker goes idle": q, the bottom of w's deque, leaves it
abbrev pub suspend : Machine → ℕ → Frame → List Frame → Machine
suspend M w q d = with_frames M (set M.deques w d) (q ∷ M.suspended)

-- the suspended frame p waits in its return, or at its sync
abbrev pub waits_in_return : Name → Frame → Bool
waits_in_return p f = same f.name p && f.returning

abbrev pub waits_at_sync : Name → Frame → Bool
waits_at_sync p f = same f.name p && not f.returning

-- the frame p, which waits in its return, ends
abbrev pub leave : Machine → Name → Machine
leave M p = with_frames M M.deques (others (waits_in_return p) M.suspended)

-- if p waits at its sync it goes to the deque of w as it is: "Sync, steal and resumption alter none" of the lists
abbrev pub resume : Machine → ℕ → Name → Machine
resume M w p = with_frames M (set M.deques w (those (waits_at_sync p) M.suspended)) (others (waits_at_sync p) M.suspended)

-- a frame of that name has ended on w, whose deque is empty now. If its parent p has no live child left and is suspended as
-- returning, "it ends too on that child's worker, and so on upward" (R-3); if it waits at its sync it "resumes on this worker"
abbrev pub upward : Machine → ℕ → Name → Machine
upward M w [] = M
upward M w (k ∷ p) =
    let ends = upward (leave M p) w p in
    cond (has_child p (live M)) M (cond (is_empty (those (waits_in_return p) M.suspended)) (resume M w p) ends)

-- the bottom q of w's deque, above which is d, ends: "Return drops the child's list"
abbrev pub after_end : Machine → ℕ → Frame → List Frame → Machine
after_end M w q [] = upward (with_deque M w []) w q.name
after_end M w q (g ∷ d) = with_deque M w (g ∷ d)

-- the deque of w has the bottom q and above it d:
-- spawn: the child "goes to the bottom of the same deque"
-- return: "the bottom frame ends"; "A return with a live child now suspends the frame as returning" (R-3)
-- sync: "with no live child the bottom frame passes"; "Else it is suspended"
-- fold: it alters nothing here; Views says what it does to the frame's view
abbrev pub after_action : Machine → ℕ → List Frame → Action → Machine
after_action M w [] a = M
after_action M w (q ∷ d) spawn = with_deque M w (child q ∷ after_spawn q ∷ d)
after_action M w (q ∷ d) return = cond (has_child q.name (live M)) (suspend M w (as_returning q) d) (after_end M w q d)
after_action M w (q ∷ d) sync = cond (has_child q.name (live M)) (suspend M w q d) M
after_action M w (q ∷ d) (read x) = M
after_action M w (q ∷ d) (write x v) = after_write M w q d x v
after_action M w (q ∷ d) (fold r x) = M

-- "an idle worker takes the top frame of a victim with at least two frames"
abbrev pub after_steal : Machine → ℕ → ℕ → Machine
after_steal M w v = with_deque (with_deque M v (below_top (deque M v))) w (top (deque M v))

abbrev pub after_turn : Machine → Turn → Machine
after_turn M (acting w a) = after_action M w (deque M w) a
after_turn M (stealing w v) = after_steal M w v

-- "A refused step alters nothing"
unfoldable pub step : Machine → Step → Machine
step M s = let M' = after_turn M (turn_of s) in cond (accepted (refusal M s)) M' M

-- ---- answers: "100 plus the kind, then a number"

-- "Read answers the value at its place in the bottom frame's list."
abbrev pub value_at : Frame → ℕ → ℕ
value_at q x = get_or q.values x 0

-- a frame has ended on w, below d in its deque, and M is the machine after that: "The end of Main is outcome 3." "If its parent
-- is then the bottom, the outcome is 0" (Theory.Deques shows that a bottom which is left is the parent). "If the deque is empty
-- otherwise, the worker is idle: outcome 1." Else a frame "resumes on this worker, past its sync: outcome 2"
abbrev pub end_outcome : Machine → ℕ → List Frame → ℕ
end_outcome M w d = first_true 2 ((not (has_frame [] (live M)), 3) ∷ (not (is_empty d), 0) ∷ (is_empty (deque M w), 1) ∷ [])

-- "spawn the child's depth", "return and sync the outcome, read the value, write the free nodes left"; "answers 107 0" (R-5)
abbrev pub action_answer : Machine → ℕ → List Frame → Action → ℕ × ℕ
action_answer M w [] a = (0, 0)
action_answer M w (q ∷ d) spawn = (101, depth (child q))
action_answer M w (q ∷ d) return = (102, cond (has_child q.name (live M)) 4 (end_outcome (after_end M w q d) w d))
action_answer M w (q ∷ d) sync = (104, cond (has_child q.name (live M)) 1 0)
action_answer M w (q ∷ d) (read x) = (105, value_at q x)
action_answer M w (q ∷ d) (write x v) = (106, free_nodes (after_write M w q d x v))
action_answer M w (q ∷ d) (fold r x) = (107, 0)

-- "steal the stolen frame's depth"
abbrev pub stolen_depth : List Frame → ℕ
stolen_depth [] = 0
stolen_depth (f ∷ fs) = depth f

abbrev pub turn_answer : Machine → Turn → ℕ × ℕ
turn_answer M (acting w a) = action_answer M w (deque M w) a
turn_answer M (stealing w v) = (103, stolen_depth (top (deque M v)))

-- "A refused record gives its refusal and 0"
unfoldable pub answer : Machine → Step → ℕ × ℕ
answer M s = let r = refusal M s in let a = turn_answer M (turn_of s) in cond (accepted r) a (r, 0)
