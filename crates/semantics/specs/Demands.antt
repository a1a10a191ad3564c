-- Demands 1 to 3 of document 01 over the entries, as a host calls them, for a layout L of the pool (R-8). Statements only; Theory proves them, for both layouts.
use Rattle.model.specs.Record.{Decoded}
use Rattle.std.specs.Prelude.{◌≡◌, ◌↔◌, ◌≢◌, Bool, true, false, cond, ◌||◌, List, [], ◌∷◌, map, ℕ, suc, ◌+◌, ◌-◌, ◌*◌, ◌/◌, ◌<◌, length, take, drop, eqb, ltb, None, Some}
use mathlib.Core.List.{Memᴰ as In}
use Rattle.words.specs.Basics.{count}
use Rattle.words.specs.Below.{Words, Bytes}
use Rattle.sizes.specs.Sizes.{height}
use Rattle.reducers.specs.Reducers.{values_into, total_sum, total_min, total_affine}
use Rattle.soundness.specs.Soundness.{cleared}
use Rattle.model.specs.declared.Step.{Step}
use Rattle.model.specs.declared.Step.TheVariants.{Spawn, Return, Steal, Sync, Read, Write, Fold}
use Rattle.model.specs.Machine.{Name, Frame, Machine, start, live, deque, in_use}
use Rattle.model.specs.Machine.{free_nodes as plainFree}
use Rattle.model.specs.Steps.{refusal, step, answer, after_write}
use Rattle.model.specs.Run.{Entry, IsFrame, steps_of, reads_of, one_worker_steps}
use Rattle.model.specs.Views.{Folded, Views, views_at_start, views_after, main_folds}
use Rattle.semantics.specs.Entries.{State, zeros, whole_nodes, numbers_of, totals_of, is_sound, chain_free}
use Rattle.frames.specs.Frames.{RecordWords}
use Rattle.image.specs.Image.{nodes_in}
use Rattle.semantics.specs.Answers.{words_in}
use Rattle.semantics.specs.Images.{saved_image, saved_bytes, state_in, records_zero, nodes_zero, load_on}
use Rattle.semantics.specs.SoundMachine.{machine_of}
use Rattle.semantics.specs.Calls.{Start, start_result, HostCall, outside, tape, StateAndPool, after_start, outside_result, tape_result, save_result, after_call, records_in, answers_in, PoolAt, rest_in, core_in, Past, Run, Call, call, save, load, begun, run_of, says_accepted, trace_from}
use Rattle.soundness.specs.Layout.{Layout}

-- ---- the plain machine, fed records

-- the machine, and beside it the views of its frames (R-5)
pub record Plain : Type 0 where
  pub machine : Machine
  pub views : Views

-- "A refused step alters nothing"; a record that is no step is refused by 7
abbrev pub plain_after : Machine → Decoded → Machine
plain_after M (Some st) = step M st
plain_after M None = M

abbrev pub views_by : Plain → Decoded → Views
views_by P (Some st) = views_after P.machine P.views st
views_by P None = P.views

abbrev pub plain_answer : Machine → Decoded → ℕ × ℕ
plain_answer M (Some st) = answer M st
plain_answer M None = (7, 0)

-- what answers are compared with: of a machine with its views and a record, with the engine's pool at the record
pub record Specification : Type 0 where
  pub answers : Plain → Decoded → PoolAt → ℕ × ℕ
  pub after : Plain → Decoded → PoolAt → Plain

-- for a run from a start: the plain machine alone
abbrev pub from_start : Specification
from_start = record { answers = λ P d k. plain_answer P.machine d; after = λ P d k. record { machine = plain_after P.machine d; views = views_by P d } }

-- with as many nodes
abbrev pub with_nodes : Machine → ℕ → Machine
with_nodes M N = record { splitters = M.splitters; nodes = N; places = M.places; deques = M.deques; suspended = M.suspended }

-- with k free nodes
abbrev pub with_free : Machine → ℕ → Machine
with_free M k = with_nodes M (in_use M.splitters (live M) + k)

-- with room for any write, or for none
abbrev pub with_room : Machine → Bool → Machine
with_room M lacks = with_nodes M (cond lacks 0 (in_use M.splitters (live M) + suc (height M.splitters)))

-- "That count is for runs from a start; a sound state handed in otherwise has the values its trees hold": there the free nodes are
-- those on the chain. By R-2 a write lacks nodes, 16, just when fewer are free than the rest of its path has; else it takes as many,
-- and answers those left
abbrev pub room_for : Machine → PoolAt → Machine
room_for M k = with_room M (ltb (plainFree M) k.rest)

abbrev pub is_written : ℕ × ℕ → Bool
is_written a = eqb a.0 106

abbrev pub sound_answer : Machine → Decoded → PoolAt → ℕ × ℕ
sound_answer M d k = cond (is_written (plain_answer (room_for M k) d)) (106, plainFree M - k.rest) (plain_answer (room_for M k) d)

abbrev pub sound_after : Machine → Decoded → PoolAt → Machine
sound_after M d k = with_free (plain_after (room_for M k) d) (cond (is_written (plain_answer (room_for M k) d)) (plainFree M - k.rest) k.free)

-- what a frame folded before is not in such a state, only its words are: nothing is said of views
abbrev pub from_sound : Specification
from_sound = record { answers = λ P d k. sound_answer P.machine d k; after = λ P d k. record { machine = sound_after P.machine d k; views = P.views } }

-- the answers to the records ds, and the machine after them; ks are the pools at them
abbrev pub answers_by : Specification → Plain → List Decoded → List PoolAt → List (ℕ × ℕ)
answers_by S P (d ∷ ds) (k ∷ ks) = S.answers P d k ∷ answers_by S (S.after P d k) ds ks
answers_by S P (d ∷ ds) [] = []
answers_by S P [] ks = []

abbrev pub machine_by : Specification → Plain → List Decoded → List PoolAt → Plain
machine_by S P (d ∷ ds) (k ∷ ks) = machine_by S (S.after P d k) ds ks
machine_by S P (d ∷ ds) [] = P
machine_by S P [] ks = P

-- ---- demand 2: "Each accepted step answers as a plain copying machine does"

-- of a run, against the machine M at its beginning; N nodes are recorded. Every list of calls is a run, so each answer is compared, also
-- one that a later reading forgets
pub record Answers (L : Layout) (S : Specification) (M : Plain) (N : ℕ) (r : Run) : Type 0 where
  -- every answer word equal, refusals 7 to 16 and 20 included
  pub same-answers : answers_in r.past.exchanges ≡ answers_by S M (records_in r.past.exchanges) r.past.pools
  -- the free nodes are the machine's
  pub same_free : r.stateless ≡ false → chain_free L r.now.state r.now.pool ≡ plainFree (machine_by S M (records_in r.past.exchanges) r.past.pools).machine
  pub still_sound : r.stateless ≡ false → is_sound L r.now.state r.now.pool ≡ true
  -- "words beyond the last whole node or beyond the recorded nodes are never changed"
  pub same_length : r.stateless ≡ false → length r.now.pool ≡ length r.lent
  pub beyond : r.stateless ≡ false → drop (L.words * N) r.now.pool ≡ drop (L.words * N) r.lent
  -- R-6: the table "changed in its own memory" has as many places as at the beginning
  pub same_places : length r.now.state.frames ≡ M.machine.places

-- the plain machine at a start: "the workers, the initial values and the number of whole nodes in the pool"; R-6: of the table, "at a start the plain
-- machine is fed its length as well"
abbrev pub plain_start : Layout → Start → Machine
plain_start L b = start b.workers b.values (whole_nodes L b.pool) (length b.parts.frames)

-- R-5: "Main begins with the identities."
abbrev pub plain_begun : Layout → Start → Plain
plain_begun L b = record { machine = plain_start L b; views = views_at_start }

abbrev pub run_from : Layout → Start → List Call → Run
run_from L b calls = run_of L (begun (after_start L b)) calls

-- for runs from an accepted start: "nodes in use are those that document 01 counts from the history"
abbrev pub Demand2 : Layout → Start → List Call → Type 0
Demand2 L b calls = Answers L from_start (plain_begun L b) (whole_nodes L b.pool) (run_from L b calls)

-- R-2: "Nodes in use after a write are as before, so the plain machine's count goes on being the measure": in a run from a start, the rest
-- of a write's path has as many nodes as the write adds to that count, so that it has more than are free just when the write "would
-- bring that count above the pool's nodes"
abbrev pub plain_now : Layout → Start → List Call → Machine
plain_now L b calls = let p : Past = (run_from L b calls).past in (machine_by from_start (plain_begun L b) (records_in p.exchanges) p.pools).machine

pub record Counted (M : Machine) (free rest : ℕ) (M' : Machine) : Type 0 where
  pub same_count : in_use M.splitters (live M') ≡ in_use M.splitters (live M) + rest
  pub same_16 : ltb free rest ≡ ltb M.nodes (in_use M.splitters (live M'))

abbrev pub RestIsCounted : Layout → Start → List Call → Type 0
RestIsCounted L b calls =
    let M : Machine = plain_now L b calls in
    let h : StateAndPool = (run_from L b calls).now in
    (w x v : ℕ) (q : Frame) (d : List Frame) → deque M w ≡ q ∷ d → x < M.splitters →
    Counted M (chain_free L h.state h.pool) (rest_in L (core_in L h) (Some (Write w x v))) (after_write M w q d x v)

-- R-2: "Layout searches write the same block many times in one branch": after an accepted write of a worker its next one to the same
-- splitter is accepted and takes no node
abbrev pub WritesAgain : Layout → Start → List Call → Type 0
WritesAgain L b calls =
    let M : Machine = plain_now L b calls in
    (w x v v' : ℕ) → refusal M (Write w x v) ≡ 0 → answer (step M (Write w x v)) (Write w x v') ≡ (106, plainFree (step M (Write w x v)))

-- for sound states, however obtained: "the values its trees hold" (SoundMachine)
abbrev pub plain_of : Layout → StateAndPool → Machine
plain_of L h = machine_of L (numbers_of h.state) h.state.deques h.state.frames h.pool

abbrev pub SoundRun : Layout → StateAndPool → List Call → Type 0
SoundRun L h calls = Answers L from_sound (record { machine = plain_of L h; views = views_at_start }) (numbers_of h.state).nodes (run_of L (begun h) calls)

-- ---- the memory that a host lends holds words of 32 bits, and tapes hold bytes

pub record StateWords (s : State) (ws : List ℕ) : Type 0 where
  pub numbers : Words s.numbers
  pub deques : Words s.deques
  pub frames : RecordWords s.frames
  pub pool : Words ws

abbrev pub StartWords : Start → Type 0
StartWords b = Words b.values × Words b.pool

abbrev pub HostWords : HostCall → Type 0
HostWords (outside kind worker field value work) = value < 4294967296
HostWords (tape bytes work answers) = Bytes bytes

abbrev pub CallWords : Call → Type 0
CallWords (call k) = HostWords k
CallWords (save work target) = Unit {0}
CallWords (load i ns ds ws work) = Words ws

abbrev pub AllCallWords : List Call → Type 0
AllCallWords [] = Unit {0}
AllCallWords (c ∷ cs) = CallWords c × AllCallWords cs

-- ---- demand 1: what refused calls leave

-- "a refused start hands out a state of zeros" and leaves the table as it was; refused by 99 it leaves the parts as they were
pub record RefusedStart (L : Layout) (b : Start) : Type 0 where
  pub state : ((start_result L b).result ≡ 99) → (start_result L b).state ≡ b.parts
  pub zero : (start_result L b).result < 99 → (start_result L b).state ≡ zeros b.parts.frames
  pub pool : (start_result L b).pool ≡ b.pool

-- "words beyond the last whole node .. are never changed"; the table keeps its length
pub record AcceptedStart (L : Layout) (b : Start) : Type 0 where
  pub same_places : length (start_result L b).state.frames ≡ length b.parts.frames
  pub same_length : length (start_result L b).pool ≡ length b.pool
  pub beyond : drop (L.words * whole_nodes L b.pool) (start_result L b).pool ≡ drop (L.words * whole_nodes L b.pool) b.pool

-- a step's first word is a refusal; a tape is refused whole
abbrev pub IsRefused : Layout → StateAndPool → HostCall → Type 0
IsRefused L h (outside kind worker field value work) = (words_in (outside_result L h kind worker field value work).result).0 < 100
IsRefused L h (tape bytes work answers) = 0 < (tape_result L h bytes work answers).result

-- the answer words after a call (a step has none)
abbrev pub answers_after : Layout → StateAndPool → HostCall → List ℕ
answers_after L h (outside kind worker field value work) = []
answers_after L h (tape bytes work answers) = (tape_result L h bytes work answers).answers

abbrev pub answers_before : HostCall → List ℕ
answers_before (outside kind worker field value work) = []
answers_before (tape bytes work answers) = answers

-- "change nothing but the work slice"; "leave state and pool unchanged"; R-6: "A refused step leaves every frame record as it was."
pub record RefusedCall (L : Layout) (h : StateAndPool) (c : HostCall) : Type 0 where
  pub same : after_call L h c ≡ h
  pub same-answers : answers_after L h c ≡ answers_before c

-- ---- demand 1: saves and readings

-- "Target bytes past the image never change."
pub record AcceptedSave (L : Layout) (h : StateAndPool) (work target : List ℕ) : Type 0 where
  pub image : take (saved_bytes L h.state) (save_result L h work target).target ≡ saved_image L h.state h.pool
  pub same_length : length (save_result L h work target).target ≡ length target
  pub past : drop (saved_bytes L h.state) (save_result L h work target).target ≡ drop (saved_bytes L h.state) target

-- "Each changes nothing but the work slice as document 01 says, and 6 when reading leaves every whole node of the pool zero. A refused
-- reading hands out a state of zeros."; R-6: "6 when reading leaves every record of the table zero too"
pub record RefusedLoad (L : Layout) (s : State) (ws work image : List ℕ) : Type 0 where
  pub state : (load_on L s ws work image).result ≡ 99 → (load_on L s ws work image).state ≡ s
  pub zero : (load_on L s ws work image).result < 99 → (load_on L s ws work image).result ≢ 6 → (load_on L s ws work image).state ≡ zeros s.frames
  pub zero_table : (load_on L s ws work image).result ≡ 6 → (load_on L s ws work image).state ≡ zeros (records_zero s.frames)
  pub pool : (load_on L s ws work image).result ≢ 6 → (load_on L s ws work image).pool ≡ ws
  pub zero_nodes : (load_on L s ws work image).result ≡ 6 → (load_on L s ws work image).pool ≡ nodes_zero L ws

-- what is read is what the image says; saved again it is the same image; the words past the recorded nodes stay, and the table's length
pub record AcceptedLoad (L : Layout) (s : State) (ws work image : List ℕ) : Type 0 where
  pub state : (load_on L s ws work image).state ≡ state_in L image
  pub sound : is_sound L (state_in L image) (load_on L s ws work image).pool ≡ true
  pub again : Bytes image → saved_image L (load_on L s ws work image).state (load_on L s ws work image).pool ≡ image
  pub same_places : length (load_on L s ws work image).state.frames ≡ length s.frames
  pub same_length : length (load_on L s ws work image).pool ≡ length ws
  pub beyond : drop (L.words * nodes_in image) (load_on L s ws work image).pool ≡ drop (L.words * nodes_in image) ws

-- "Reading back gives the same state": of the image that an accepted save has written, into any
-- parts that fit, with a table of as many places, a work slice that is long enough and a pool that holds the nodes, whatever they hold and however much longer it is
abbrev pub written_image : Layout → StateAndPool → List ℕ → List ℕ → List ℕ
written_image L h work target = take (saved_bytes L h.state) (save_result L h work target).target

pub record ReadsBack (L : Layout) (h : StateAndPool) (image : List ℕ) (s : State) (ws work : List ℕ) : Type 0 where
  pub accepted : (load_on L s ws work image).result ≡ 0
  pub state : (load_on L s ws work image).state ≡ h.state
  pub nodes : take (L.words * (numbers_of h.state).nodes) (load_on L s ws work image).pool ≡ take (L.words * (numbers_of h.state).nodes) h.pool
  pub same_length : length (load_on L s ws work image).pool ≡ length ws
  pub beyond : drop (L.words * (numbers_of h.state).nodes) (load_on L s ws work image).pool ≡ drop (L.words * (numbers_of h.state).nodes) ws

-- ---- the slices after any call, refused or not

-- "Answer words past the last record's never change."
pub record SamePast (L : Layout) (h : StateAndPool) (bytes work answers : List ℕ) : Type 0 where
  pub same_length : length (tape_result L h bytes work answers).answers ≡ length answers
  pub past : drop (2 * (length bytes / 8)) (tape_result L h bytes work answers).answers ≡ drop (2 * (length bytes / 8)) answers

-- a step's first answer word; a tape's result
abbrev pub call_result : Layout → StateAndPool → HostCall → ℕ
call_result L h (outside kind worker field value work) = (words_in (outside_result L h kind worker field value work).result).0
call_result L h (tape bytes work answers) = (tape_result L h bytes work answers).result

abbrev pub work_before : HostCall → List ℕ
work_before (outside kind worker field value work) = work
work_before (tape bytes work answers) = work

abbrev pub work_after : Layout → StateAndPool → HostCall → List ℕ
work_after L h (outside kind worker field value work) = (outside_result L h kind worker field value work).work
work_after L h (tape bytes work answers) = (tape_result L h bytes work answers).work

-- refusals 99, 4 and 5 come before the check
abbrev pub before_check : ℕ → Bool
before_check r = eqb r 99 || (eqb r 4 || eqb r 5)

-- "after a call that reached it, its first words, one per recorded node, are zero and the others are unchanged"
abbrev pub WorkAfter : Layout → StateAndPool → HostCall → Type 0
WorkAfter L h c = work_after L h c ≡ cond (before_check (call_result L h c)) (work_before c) (cleared (numbers_of h.state).nodes (work_before c))

-- the same of saves and readings: the check is reached after 99 and 5, and after 17 and 18
abbrev pub WorkAfterSave : Layout → StateAndPool → List ℕ → List ℕ → Type 0
WorkAfterSave L h work target = (save_result L h work target).work ≡ cond (before_check (save_result L h work target).result) work (cleared (numbers_of h.state).nodes work)

abbrev pub WorkAfterLoad : Layout → State → List ℕ → List ℕ → List ℕ → Type 0
WorkAfterLoad L s ws work image =
    (load_on L s ws work image).work ≡
    cond (before_check (load_on L s ws work image).result || (eqb (load_on L s ws work image).result 17 || eqb (load_on L s ws work image).result 18)) work (cleared (nodes_in image) work)

-- ---- demand 3

-- what the frames of a run did and read, by the engine's answers
abbrev pub trace_of : Layout → Start → List Call → List Entry
trace_of L b calls = trace_from (plain_start L b) (run_from L b calls).past.exchanges

-- "Main has returned once a return of the run was answered with outcome 3."
abbrev pub MainReturned : Layout → Start → List Call → Type 0
MainReturned L b calls = In (102, 3) (answers_in (run_from L b calls).past.exchanges)

-- a step as a host enters it, with this work slice
abbrev pub call_of : Step → List ℕ → HostCall
call_of (Spawn w) work = outside 1 w 0 0 work
call_of (Return w) work = outside 2 w 0 0 work
call_of (Steal w v) work = outside 3 w v 0 work
call_of (Sync w) work = outside 4 w 0 0 work
call_of (Read w x) work = outside 5 w x 0 work
call_of (Write w x v) work = outside 6 w x v work
call_of (Fold w r v) work = outside 7 w r v work

-- "It enters Main's child-first list step by step", the i-th with the work slice `works i`
abbrev pub one_by_one : (ℕ → List ℕ) → ℕ → List Step → List HostCall
one_by_one works i [] = []
one_by_one works i (s ∷ ss) = call_of s (works i) ∷ one_by_one works (suc i) ss

-- the one-worker run's calls, for a run with this trace
abbrev pub one_worker_calls : List Entry → (ℕ → List ℕ) → List Call
one_worker_calls trace works = map call (one_by_one works 0 (one_worker_steps trace))

-- "The one-worker run starts with one worker, the same initial values and a pool of as many whole nodes", over any parts that fit; R-6: "The one-worker
-- run has as many places": the table of these parts has, whatever it holds. Each step "with a work slice that is long enough"
abbrev pub alone_start : Start → State → List ℕ → Start
alone_start b parts ws = record { parts = parts; workers = 1; values = b.values; pool = ws }

abbrev pub all_accepted : List (ℕ × ℕ) → Type 0
all_accepted [] = Unit {0}
all_accepted (a ∷ as') = (says_accepted a ≡ true) × all_accepted as'

-- "all recorded nodes lie once on the free chain"
abbrev pub AllFree : Layout → StateAndPool → Type 0
AllFree L h =
    (i : ℕ) → i < (numbers_of h.state).nodes → count i (L.free_nodes (numbers_of h.state).nodes h.pool (numbers_of h.state).free_node) ≡ 1

-- R-5: "each total is the identity joined with the values folded into its reducer", of folds in their order
abbrev pub total_words : List Folded → List ℕ
total_words fs =
    (total_sum (values_into 0 fs)).value ∷ (total_min (values_into 1 fs)).value ∷ (total_affine (values_into 2 fs)).multiplier ∷ (total_affine (values_into 2 fs)).addend ∷ []

-- r is the run, and `trace` what its frames did and read; b₁ is the one-worker run's start, cs₁ are its calls
pub record OneWorker (L : Layout) (trace : List Entry) (r : Run) (b₁ : Start) (cs₁ : List Call) : Type 0 where
  pub starts : (start_result L b₁).result ≡ 0
  -- each step of the list is fed to the machine, and none is refused
  pub all_entered : records_in (run_from L b₁ cs₁).past.exchanges ≡ map Some (one_worker_steps trace)
  pub none_refused : all_accepted (answers_in (run_from L b₁ cs₁).past.exchanges)
  pub same-frames : (p : Name) → IsFrame (trace_of L b₁ cs₁) p ↔ IsFrame trace p
  pub same_steps : (p : Name) → steps_of p (trace_of L b₁ cs₁) ≡ steps_of p trace
  pub same_reads : (p : Name) → reads_of p (trace_of L b₁ cs₁) ≡ reads_of p trace
  -- unless the last reading was refused
  pub all_free : r.stateless ≡ false → AllFree L r.now
  pub all_free_alone : AllFree L (run_from L b₁ cs₁).now
  -- R-5: "in the order of Main's child-first list, as in the one-worker run"
  pub totals : r.stateless ≡ false → totals_of r.now.state ≡ total_words (main_folds trace)
  pub totals_alone : totals_of (run_from L b₁ cs₁).now.state ≡ total_words (main_folds trace)

-- for each lent parts that fit, with a table of as many places, each pool "of as many whole nodes" and each choice of long enough work slices
abbrev pub Demand3 : Layout → Start → List Call → State → List ℕ → (ℕ → List ℕ) → Type 0
Demand3 L b calls parts ws works = OneWorker L (trace_of L b calls) (run_from L b calls) (alone_start b parts ws) (one_worker_calls (trace_of L b calls) works)
