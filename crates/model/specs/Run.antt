-- A run on the plain machine, what its frames did and read, and the one-worker run's list. Definitions only.
use Rattle.std.specs.Prelude.{◌≡◌, cond, List, [], ◌∷◌, ◌++◌, map, ℕ, zero, suc, ◌≤◌, ◌<◌, length}
use mathlib.Core.List.{Memᴰ as In}
use Rattle.words.specs.Basics.{same}
use Rattle.model.specs.declared.Step.{Step}
use Rattle.model.specs.Machine.{Name, Frame, Machine, deque}
use Rattle.model.specs.Steps.{Action, spawn, return, sync, read, write, fold, Turn, acting, stealing, turn_of, step_of, refusal, accepted, step, answer, value_at}

-- ---- a run

-- "then the steps from outside and the tapes' records, in order". "Refused calls and refused records belong to the list."
abbrev pub run : Machine → List Step → Machine
run M [] = M
run M (s ∷ ss) = run (step M s) ss

abbrev pub answers : Machine → List Step → List (ℕ × ℕ)
answers M [] = []
answers M (s ∷ ss) = answer M s ∷ answers (step M s) ss

-- "Main has returned once a return of the run was answered with outcome 3."
abbrev pub Returned : Machine → List Step → Type 0
Returned M ss = In (102, 3) (answers M ss)

-- no step of the list is refused
pub data AllAccepted : Machine → List Step → Type 0 where
  no_step : {M : Machine} → AllAccepted M []
  accepted_then : {M : Machine} {s : Step} {ss : List Step} → refusal M s ≡ 0 → AllAccepted (step M s) ss → AllAccepted M (s ∷ ss)

-- ---- the trace: "the accepted steps of the run, steals left out, that a worker took while this was its bottom frame"

-- the frame that took the step, what it did, "with their splitters and values", and the value read (0 if it did not read)
pub record Entry : Type 0 where
  pub frame : Name
  pub action : Action
  pub value : ℕ

abbrev pub read_value : Frame → Action → ℕ
read_value q spawn = 0
read_value q return = 0
read_value q sync = 0
read_value q (read x) = value_at q x
read_value q (write x v) = 0
read_value q (fold r x) = 0

abbrev pub entry : Frame → Action → Entry
entry q a = record { frame = q.name; action = a; value = read_value q a }

abbrev pub bottom_entry : List Frame → Action → List Entry
bottom_entry [] a = []
bottom_entry (q ∷ d) a = entry q a ∷ []

abbrev pub turn_entry : Machine → Turn → List Entry
turn_entry M (acting w a) = bottom_entry (deque M w) a
turn_entry M (stealing w v) = []

abbrev pub trace : Machine → List Step → List Entry
trace M [] = []
trace M (s ∷ ss) = cond (accepted (refusal M s)) (turn_entry M (turn_of s)) [] ++ trace (step M s) ss

-- ---- "A frame's steps", and "What a frame has read"

abbrev pub entries_of : Name → List Entry → List Entry
entries_of p [] = []
entries_of p (e ∷ es) = cond (same e.frame p) (e ∷ entries_of p es) (entries_of p es)

abbrev pub steps_of : Name → List Entry → List Action
steps_of p es = map (λ e. e.action) (entries_of p es)

abbrev pub read_by : Action → ℕ → List ℕ
read_by spawn v = []
read_by return v = []
read_by sync v = []
read_by (read x) v = v ∷ []
read_by (write x y) v = []
read_by (fold r x) v = []

abbrev pub reads : List Entry → List ℕ
reads [] = []
reads (e ∷ es) = read_by e.action e.value ++ reads es

abbrev pub reads_of : Name → List Entry → List ℕ
reads_of p es = reads (entries_of p es)

abbrev pub spawns : List Action → ℕ
spawns [] = 0
spawns (spawn ∷ as') = suc (spawns as')
spawns (return ∷ as') = spawns as'
spawns (sync ∷ as') = spawns as'
spawns (read x ∷ as') = spawns as'
spawns (write x v ∷ as') = spawns as'
spawns (fold r x ∷ as') = spawns as'

-- the names of a run's frames: Main's, and for each frame one for each of its accepted spawns, "k counted from 1"
abbrev pub IsFrame : List Entry → Name → Type 0
IsFrame es [] = Unit {0}
IsFrame es (k ∷ p) = (0 < k) × (k ≤ spawns (steps_of p es))

-- ---- "A frame's child-first list is its steps in order, each spawn followed at once by the whole child-first list of the
-- child it made."

-- a spawn is followed by the child's list and then by the rest, another step by the rest; the rest after a spawn has one
-- child fewer to come
abbrev pub follow : Action → Entry → List Entry → List Entry → List Entry → List Entry
follow spawn e inner after on = e ∷ (inner ++ after)
follow return e inner after on = e ∷ on
follow sync e inner after on = e ∷ on
follow (read x) e inner after on = e ∷ on
follow (write x v) e inner after on = e ∷ on
follow (fold r x) e inner after on = e ∷ on

-- a frame's own steps with its children's lists put in; the next spawn is its k-th, and `inner k` is the k-th child's list
abbrev pub with_children : (ℕ → List Entry) → ℕ → List Entry → List Entry
with_children inner k [] = []
with_children inner k (e ∷ es) =
    let i = inner k in
    let after = with_children inner (suc k) es in
    let on = with_children inner k es in
    follow e.action e i after on

-- the list of the frame p. The first number bounds how deep the spawns go: no chain of them is longer than the trace
abbrev pub child_first_list : ℕ → List Entry → Name → List Entry
child_first_list zero es p = []
child_first_list (suc fuel) es p = with_children (λ k. child_first_list fuel es (k ∷ p)) 1 (entries_of p es)

-- "It enters Main's child-first list step by step, all for worker 0"
abbrev pub for_worker0 : List Entry → List Step
for_worker0 es = map (λ e. step_of 0 e.action) es

abbrev pub one_worker_steps : List Entry → List Step
one_worker_steps es = for_worker0 (child_first_list (suc (length es)) es [])
