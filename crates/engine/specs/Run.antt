-- A run as the definitions of crate semantics have it, and what the promises of its steps are said in. Definitions only.
use Rattle.std.specs.Prelude.{◌≡◌, cond, List, ℕ, suc, ◌≤◌, ◌<◌, length, eqb, Result, Ok, Err}
use Rattle.words.specs.Basics.{none}
use Rattle.frames.specs.Widths.{max_workers, max_places}
use Rattle.frames.specs.declared.Frame.{Frame}
use Rattle.frames.specs.declared.Returned.TheVariants.{Continued}
use Rattle.frames.specs.Frames.{frame_at}
use Rattle.frames.specs.Deques.{size, bottom}
use Rattle.soundness.specs.Numbers.{numbers_in, totals_in, set_free_node, set_free_place}
use Rattle.soundness.specs.Layout.{two_words}
use Rattle.semantics.specs.declared.Head.{Head}
use Rattle.semantics.specs.declared.Refusal.{Refusal}
use Rattle.semantics.specs.Answers.{Answer}
use Rattle.semantics.specs.Core.{Core, StepResult, acting_tests, end_at, upward, returned}
use Rattle.semantics.specs.Ranges.{EndsAt, EndsUpward, Ready}
use Rattle.engine.specs.Promises.{tested}
use Rattle.engine.specs.declared.run.Run.{Run}
use Rattle.engine.specs.declared.refusals.Acting.{Acting}

-- what the run acts on now
abbrev pub core_in : Run → Core
core_in r = record { head = r.head; totals = totals_in r.numbers.now; deques = r.deques.now; frames = r.frames.now; pool = r.pool.now.words.now }

-- and the answer of the step that led to it
abbrev pub stepped : Run → Answer → StepResult
stepped r a = record { core = core_in r; answer = a }

-- the numbers with another first free node, first free place and number of free nodes
abbrev pub renewed : Head → ℕ → ℕ → ℕ → Head
renewed h node place count = record { numbers = set_free_place (set_free_node h.numbers node) place; height = h.height; free_count = count }

-- the lent parts are the same ones, and of the numbers only those of what is free have changed; the words of the numbers have not
pub record SameRun (r s : Run) : Type 0 where
  pub numbers : s.numbers.ghost_name ≡ r.numbers.ghost_name
  pub deques : s.deques.ghost_name ≡ r.deques.ghost_name
  pub frames : s.frames.ghost_name ≡ r.frames.ghost_name
  pub pool : s.pool.ghost_name ≡ r.pool.ghost_name
  pub pool_words : s.pool.now.words.ghost_name ≡ r.pool.now.words.ghost_name
  pub nodes : s.pool.now.nodes ≡ r.pool.now.nodes
  pub head : s.head ≡ renewed r.head s.head.numbers.free_node s.head.numbers.free_place s.head.free_count
  pub words : numbers_in s.numbers.now ≡ numbers_in r.numbers.now

-- a sound core gives the code its ranges, and the pool has its nodes
pub record ReadyRun (r : Run) : Type 0 where
  pub core : Ready (core_in r)
  pub nodes : r.pool.now.nodes ≡ r.head.numbers.nodes

-- ---- the frame that acts

-- worker w has n frames and executes the one at place p, by the deques alone
pub record ActsOn (ds : List ℕ) (w n p : ℕ) : Type 0 where
  pub has : n ≡ size ds w
  pub busy : 0 < n
  pub acting : p ≡ bottom ds w

-- refusals 8, 9 and 10, or the place of the frame that worker w executes and its number of frames
abbrev pub IsActing : Core → ℕ → Result Acting Refusal → Type 0
IsActing c w (Err r) = tested (acting_tests c w) ≡ Err r
IsActing c w (Ok a) = (w < c.head.numbers.workers) × (tested (acting_tests c w) ≡ Ok tt) × ActsOn c.deques w a.count a.place

-- ---- the ends of a return

-- worker w's frame at place p, the n-th, has left its deque, and can end; if it was the only one there, so can those upward of it that end too
pub record EndsFrom (c : Core) (w n p : ℕ) : Type 0 where
  pub worker : w < max_workers
  pub has : n ≡ suc (size c.deques w)
  -- Main is the top of its deque
  pub alone : (frame_at c.frames p).parent ≡ none → n ≡ 1
  pub few_places : length c.frames ≤ max_places
  pub can_end : EndsAt c p
  pub upward : EndsUpward (frame_at c.frames p).depth (end_at two_words c p) (frame_at c.frames p).parent

-- it ends; if worker w has no other frame, the ends go on upward
abbrev pub ends_from : Core → ℕ → ℕ → StepResult
ends_from c w p =
    let f : Frame = frame_at c.frames p in
    let ends = upward two_words f.depth (end_at two_words c p) w f.parent in
    cond (eqb (size c.deques w) 0) ends (returned (end_at two_words c p) Continued)
