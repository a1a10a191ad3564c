-- What a step does to the state and the pool, and what it answers: refusals 8 to 16 and 20 in checking order, then the step.
-- L is the layout of the pool (crate soundness, Layout): R-8. Definitions only; every one is total.
use Rattle.semantics.specs.Answers.{Answer}
use Rattle.std.specs.Prelude.{Bool, cond, not, ◌||◌, List, [], ◌∷◌, ◌++◌, ℕ, zero, suc, eqb, ltb, Err, Ok}
use Rattle.words.specs.Basics.{none, plus, all}
use Rattle.reducers.specs.Reducers.{view_words}
use Rattle.frames.specs.declared.Frame.{Frame}
use Rattle.frames.specs.declared.Returned.{Returned}
use Rattle.frames.specs.declared.Returned.TheVariants.{Continued, Finished, Waiting}
use Rattle.frames.specs.Frames.{frame_at, set_frame, with_root, as_returning}
use Rattle.frames.specs.Deques.{size, bottom, pop}
use Rattle.frames.specs.Steps.{Table, acting, spawn, suspend, end_frame, ends_too, go_on, went_on, steal, stolen, sync, synced, fold}
use Rattle.soundness.specs.Numbers.{set_free_node, set_free_place}
use Rattle.model.specs.declared.Step.{Step}
use Rattle.model.specs.declared.Step.TheVariants.{Spawn, Return, Steal, Sync, Read, Write, Fold}
use Rattle.model.specs.Steps.{reducers}
use Rattle.semantics.specs.declared.Head.{Head}
use Rattle.semantics.specs.declared.Done.TheVariants.{Spawned, Ended, Stolen, Waited, Value, Written, Folded}
use Rattle.semantics.specs.declared.Refusal.{Refusal}
use Rattle.semantics.specs.declared.Refusal.TheVariants.{NoWorker, MainReturned, WorkerIdle, ThiefBusy, NoVictim, FramesFull, NoSplitter, PoolFull, NoReducer}
use Rattle.soundness.specs.Layout.{Layout}

-- what steps act on: the numbers, the words of the totals and of the deques, the frame table, and the pool's words
pub record Core : Type 0 where
  pub head : Head
  pub totals : List ℕ
  pub deques : List ℕ
  pub frames : List Frame
  pub pool : List ℕ

-- a core and the answer of the step that led to it
pub record StepResult : Type 0 where
  pub core : Core
  pub answer : Answer

abbrev pub step_result : Head → List ℕ → List ℕ → List Frame → List ℕ → Answer → StepResult
step_result h ts ds fs ws a = record { core = record { head = h; totals = ts; deques = ds; frames = fs; pool = ws }; answer = a }

abbrev pub table_of : Core → Table
table_of c = record { deques = c.deques; frames = c.frames; free_place = c.head.numbers.free_place }

-- the frame that worker w executes
abbrev pub acting_in : Core → ℕ → Frame
acting_in c w = acting (table_of c) w

-- ---- numbers

-- with another first free place
abbrev pub with_free_place : Head → ℕ → Head
with_free_place h p = record { numbers = set_free_place h.numbers p; height = h.height; free_count = h.free_count }

-- with another first free node and number of free nodes
abbrev pub with_free_nodes : Head → ℕ → ℕ → Head
with_free_nodes h f k = record { numbers = set_free_node h.numbers f; height = h.height; free_count = k }

-- the core with other deques, frame table and first free place
abbrev pub with_table : Core → Table → Core
with_table c t = record { head = with_free_place c.head t.free_place; totals = c.totals; deques = t.deques; frames = t.frames; pool = c.pool }

-- ---- refusals

abbrev pub idle : Core → ℕ → Bool
idle c w = eqb (size c.deques w) 0

abbrev pub no_worker : Core → ℕ → Bool
no_worker c w = not (ltb w c.head.numbers.workers)

-- "Main has returned": in a sound state a frame that lives is in a deque, or a frame below it is
abbrev pub all_idle : Core → Bool
all_idle c = all c.head.numbers.workers (idle c)

-- the first test that holds refuses, and nothing changes
abbrev pub judged : List (Bool × Refusal) → Core → StepResult → StepResult
judged [] c d = d
judged (t ∷ ts) c d = cond t.0 (record { core = c; answer = Err t.1 }) (judged ts c d)

-- refusals 8, 9 and 10
abbrev pub acting_tests : Core → ℕ → List (Bool × Refusal)
acting_tests c w = (no_worker c w, NoWorker) ∷ (all_idle c, MainReturned) ∷ (idle c w, WorkerIdle) ∷ []

-- ---- the seven kinds

unfoldable pub spawn_on : Layout → Core → ℕ → StepResult
spawn_on L c w =
    let t : Table = spawn (table_of c) w in
    step_result (with_free_place c.head t.free_place) c.totals t.deques t.frames (L.retain c.pool (acting_in c w).root) (Ok (Spawned (plus (acting_in c w).depth 1)))

-- a return that left the core c, with the outcome o
abbrev pub returned : Core → Returned → StepResult
returned c o = record { core = c; answer = Ok (Ended o) }

-- R-5: "Once Main has returned, each total is ..": Main's view, at its end
abbrev pub totals_after : Core → Frame → List ℕ
totals_after c f = cond (eqb f.parent none) (view_words f.view) c.totals

-- the frame at place p ends: its tree is released, and its place is the first free one
unfoldable pub end_at : Layout → Core → ℕ → Core
end_at L c p =
    let r : List ℕ × ℕ × ℕ = L.release c.head.numbers.nodes c.head.height c.pool c.head.numbers.free_node c.head.free_count (frame_at c.frames p).root in
    record {
      head = with_free_nodes (with_free_place c.head p) r.1 r.2;
      totals = totals_after c (frame_at c.frames p);
      deques = c.deques;
      frames = end_frame c.frames c.head.numbers.free_place p;
      pool = r.0;
    }

-- a frame of depth d, whose parent is at place q, has ended on worker w, whose deque is empty. R-3: if that was the last child of a frame
-- that waits in its return, "it ends too on that child's worker, and so on upward; the answer shows where that stopped: 1, 2 or 3"
unfoldable pub upward : Layout → ℕ → Core → ℕ → ℕ → StepResult
upward L zero c w q = returned c Finished
upward L (suc d) c w q =
    let f : Frame = frame_at c.frames q in
    let ends = upward L d (end_at L c q) w f.parent in
    cond (ends_too f) ends (returned (with_table c (go_on (table_of c) w q)) (went_on (table_of c) q))

-- worker w's bottom frame leaves its deque
abbrev pub popped : Core → ℕ → Core
popped c w = record { head = c.head; totals = c.totals; deques = pop c.deques w; frames = c.frames; pool = c.pool }

-- worker w's bottom frame ends; "If its parent is then the bottom, the outcome is 0"
unfoldable pub end_bottom : Layout → Core → ℕ → StepResult
end_bottom L c w =
    let f : Frame = acting_in c w in
    let c' : Core = end_at L (popped c w) (bottom c.deques w) in
    let ends = upward L f.depth c' w f.parent in
    cond (eqb (size c'.deques w) 0) ends (returned c' Continued)

-- R-3: "A return with a live child now suspends the frame as returning and gives outcome 4; its worker goes idle, and its tree is held."
unfoldable pub return_on : Layout → Core → ℕ → StepResult
return_on L c w =
    let ends = end_bottom L c w in
    cond (eqb (acting_in c w).outstanding 0) ends (returned (with_table c (suspend (table_of c) w (as_returning (acting_in c w)))) Waiting)

unfoldable pub steal_on : Core → ℕ → ℕ → StepResult
steal_on c w v =
    let t : Table = steal (table_of c) w v in
    step_result c.head c.totals t.deques c.frames c.pool (Ok (Stolen (stolen (table_of c) v).depth))

unfoldable pub sync_on : Core → ℕ → StepResult
sync_on c w =
    let t : Table = sync (table_of c) w in
    step_result c.head c.totals t.deques t.frames c.pool (Ok (Waited (synced (table_of c) w)))

unfoldable pub read_on : Layout → Core → ℕ → ℕ → StepResult
read_on L c w x = record { core = c; answer = Ok (Value (L.read c.head.height c.pool (acting_in c w).root x)) }

unfoldable pub write_on : Layout → Core → ℕ → ℕ → ℕ → StepResult
write_on L c w x v =
    let p : List ℕ × ℕ × ℕ × ℕ = L.write c.head.height c.pool c.head.numbers.free_node c.head.free_count (acting_in c w).root x v in
    step_result (with_free_nodes c.head p.1 p.2) c.totals c.deques (set_frame c.frames (bottom c.deques w) (with_root (acting_in c w) p.3)) p.0
    (Ok (Written p.2))

-- R-5: "Record kind 7 folds its value into the reducer named in its splitter field and answers 107 0"
unfoldable pub fold_on : Core → ℕ → ℕ → ℕ → StepResult
fold_on c w r v = step_result c.head c.totals c.deques (fold (table_of c) w r v).frames c.pool (Ok Folded)

-- ---- a step

-- refusals 13, 15, 16 and 20, of the kind alone; 13, by R-6: as many frames live as the table has places, so that none is free; "14 no longer occurs" (R-3). 20 stands "in the place of 15" (R-5). 16, by R-2: "when fewer nodes are free than that rest has", of the path to the splitter
abbrev pub kind_tests : Layout → Core → Step → List (Bool × Refusal)
kind_tests L c (Spawn w) = (eqb c.head.numbers.free_place none, FramesFull) ∷ []
kind_tests L c (Return w) = []
kind_tests L c (Steal w v) = []
kind_tests L c (Sync w) = []
kind_tests L c (Read w x) = (not (ltb x c.head.numbers.splitters), NoSplitter) ∷ []
kind_tests L c (Write w x v) = (not (ltb x c.head.numbers.splitters), NoSplitter) ∷ (ltb c.head.free_count (L.rest c.head.height c.pool (acting_in c w).root x), PoolFull) ∷ []
kind_tests L c (Fold w r v) = (not (ltb r reducers), NoReducer) ∷ []

-- refusals 8, 9, 11 and 12
abbrev pub steal_tests : Core → ℕ → ℕ → List (Bool × Refusal)
steal_tests c w v = (no_worker c w, NoWorker) ∷ (all_idle c, MainReturned) ∷ (not (idle c w), ThiefBusy) ∷ (no_worker c v || ltb (size c.deques v) 2, NoVictim) ∷ []

-- its refusals, in checking order
abbrev pub tests_of : Layout → Core → Step → List (Bool × Refusal)
tests_of L c (Spawn w) = acting_tests c w ++ kind_tests L c (Spawn w)
tests_of L c (Return w) = acting_tests c w ++ kind_tests L c (Return w)
tests_of L c (Steal w v) = steal_tests c w v
tests_of L c (Sync w) = acting_tests c w ++ kind_tests L c (Sync w)
tests_of L c (Read w x) = acting_tests c w ++ kind_tests L c (Read w x)
tests_of L c (Write w x v) = acting_tests c w ++ kind_tests L c (Write w x v)
tests_of L c (Fold w r v) = acting_tests c w ++ kind_tests L c (Fold w r v)

-- what it does if none holds
abbrev pub done_by : Layout → Core → Step → StepResult
done_by L c (Spawn w) = spawn_on L c w
done_by L c (Return w) = return_on L c w
done_by L c (Steal w v) = steal_on c w v
done_by L c (Sync w) = sync_on c w
done_by L c (Read w x) = read_on L c w x
done_by L c (Write w x v) = write_on L c w x v
done_by L c (Fold w r v) = fold_on c w r v

unfoldable pub step_on : Layout → Core → Step → StepResult
step_on L c st = judged (tests_of L c st) c (done_by L c st)
