-- R-7: clocks, work and span, beside the machine. Definitions only.
use Rattle.std.specs.Prelude.{Bool, true, false, cond, not, ◌&&◌, List, [], ◌∷◌, ◌++◌, map, ℕ, suc, ◌+◌, max}
use Rattle.words.specs.Basics.{same}
use Rattle.model.specs.declared.Step.{Step}
use Rattle.model.specs.Machine.{Name, Frame, Machine, live, deque, is_empty, is_child, has_child, has_frame, start}
use Rattle.model.specs.Steps.{Action, spawn, return, sync, read, write, fold, Turn, acting, stealing, turn_of, refusal, accepted, child, step}

pub record Clock : Type 0 where
  pub name : Name
  pub clock : ℕ
  -- the latest of its ended children's
  pub latest : ℕ
  -- it has a sync that has not passed yet
  pub waits : Bool

pub record Clocks : Type 0 where
  -- of the live frames, each after all below it, before its parent (Theory.ClockNames shows that they stand so)
  pub clocks : List Clock
  -- "the sum of costs"
  pub work : ℕ
  -- "Main's clock at its return"; 0 before (Theory.NoSpan)
  pub span : ℕ

-- Main's begins at 0
abbrev pub clocks_at_start : Clocks
clocks_at_start = record { clocks = record { name = []; clock = 0; latest = 0; waits = false } ∷ []; work = 0; span = 0 }

-- "Each accepted spawn, sync, read, write and fold costs 1, returns and steals 0."
abbrev pub cost : Action → ℕ
cost spawn = 1
cost sync = 1
cost (read x) = 1
cost (write x v) = 1
cost (fold r x) = 1
cost return = 0

-- ---- a step

-- one on
abbrev pub ticked : Clock → Clock
ticked c = record { name = c.name; clock = suc c.clock; latest = c.latest; waits = c.waits }

-- "A sync moves the clock to the latest of its own and its ended children's, counted when it passes, then adds 1"
abbrev pub passed : Clock → Clock
passed c = record { name = c.name; clock = suc (max c.clock c.latest); latest = c.latest; waits = false }

-- a sync that does not pass yet
abbrev pub waiting : Clock → Clock
waiting c = record { name = c.name; clock = c.clock; latest = c.latest; waits = true }

-- a step of q, whose clock is c; `busy`: q has a live child. "A child's clock begins at its parent's after the spawn."
abbrev pub moved : Frame → Action → Bool → Clock → List Clock
moved q spawn busy c = record { name = (child q).name; clock = suc c.clock; latest = 0; waits = false } ∷ ticked c ∷ []
moved q sync true c = waiting c ∷ []
moved q sync false c = passed c ∷ []
moved q return busy c = c ∷ []
moved q (read x) busy c = ticked c ∷ []
moved q (write x v) busy c = ticked c ∷ []
moved q (fold r x) busy c = ticked c ∷ []

abbrev pub clocks_moved : Frame → Action → Bool → List Clock → List Clock
clocks_moved q a busy [] = []
clocks_moved q a busy (c ∷ cs) = cond (same c.name q.name) (moved q a busy c ++ cs) (c ∷ clocks_moved q a busy cs)

abbrev pub bottom_clocks : Machine → List Frame → Action → List Clock → List Clock
bottom_clocks M [] a cs = cs
bottom_clocks M (q ∷ d) a cs = clocks_moved q a (has_child q.name (live M)) cs

abbrev pub turn_clocks : Machine → Turn → List Clock → List Clock
turn_clocks M (acting w a) cs = bottom_clocks M (deque M w) a cs
turn_clocks M (stealing w v) cs = cs

abbrev pub turn_cost : Turn → ℕ
turn_cost (acting w a) = cost a
turn_cost (stealing w v) = 0

-- ---- frames that end, and syncs that pass at a resumption

-- a frame that has ended, and its clock at its end
abbrev pub Final : Type 0
Final = Name × ℕ

-- the latest of those whose names pass a test
abbrev pub best : (Name → Bool) → List Final → ℕ
best t [] = 0
best t (f ∷ fs) = let m = best t fs in cond (t f.0) (max f.1 m) m

-- with its ended children's clocks
abbrev pub heard : List Final → Clock → Clock
heard ended c = record { name = c.name; clock = c.clock; latest = max c.latest (best (is_child c.name) ended); waits = c.waits }

-- "a return likewise waits but adds nothing"
abbrev pub final_clock : Clock → ℕ
final_clock c = max c.clock c.latest

-- a sync passes when its frame is suspended no more
abbrev pub woken : List Frame → Clock → Clock
woken suspended c = cond (c.waits && not (has_frame c.name suspended)) (passed c) c

-- the frames that pass the test stay; `ended` are the others, with their clocks at their end
abbrev pub settle_by : (Name → Bool) → List Final → List Clock → List Clock × List Final
settle_by stays ended [] = ([], ended)
settle_by stays ended (c ∷ cs) =
    let h = heard ended c in
    let go_on = settle_by stays ended cs in
    let ends = settle_by stays ((c.name, final_clock h) ∷ ended) cs in
    cond (stays c.name) (h ∷ go_on.0, go_on.1) ends

-- the frames L live now
abbrev pub settle : List Frame → List Final → List Clock → List Clock × List Final
settle L = settle_by (λ n. has_frame n L)

-- the step, then the ends, then the syncs that pass; a refused step costs nothing
abbrev pub clocks_after : Machine → Clocks → Step → Clocks
clocks_after M C s =
    let r = settle (live (step M s)) [] (turn_clocks M (turn_of s) C.clocks) in
    let C' : Clocks = record { clocks = map (woken (step M s).suspended) r.0; work = turn_cost (turn_of s) + C.work; span = max C.span (best is_empty r.1) } in
    cond (accepted (refusal M s)) C' C

-- ---- a run

abbrev pub run_clocks : Machine → Clocks → List Step → Clocks
run_clocks M C [] = C
run_clocks M C (s ∷ ss) = run_clocks (step M s) (clocks_after M C s) ss

-- once Main has returned: "Work is the sum of costs, span is Main's clock at its return."
abbrev pub pair_of : ℕ → List ℕ → ℕ → ℕ → List Step → ℕ × ℕ
pair_of workers values nodes places steps = let C = run_clocks (start workers values nodes places) clocks_at_start steps in (C.work, C.span)
