-- A run: an accepted start, then calls, each a step entered from outside, a tape, a save or a reading of an image; what it feeds to the
-- plain machine, and what its frames have read. Everything is in terms of the entries, as a host calls them. Definitions only.
use Rattle.std.specs.Prelude.{Bool, false, cond, not, ◌||◌, List, [], ◌∷◌, ◌++◌, map, ℕ, zero, suc, ◌+◌, get_or, take, eqb, leb, None, Some}
use Rattle.sizes.specs.Sizes.{height}
use Rattle.model.specs.declared.Step.TheVariants.{Spawn, Return, Steal, Sync, Read, Write, Fold}
use Rattle.model.specs.Record.{Decoded, record_of}
use Rattle.model.specs.Machine.{Frame, Machine, deque}
use Rattle.model.specs.Steps.{Action, spawn, return, sync, read, write, fold, Turn, acting, stealing, turn_of, step}
use Rattle.model.specs.Run.{Entry}
use Rattle.semantics.specs.Answers.{words_in}
use Rattle.semantics.specs.Core.{Core, acting_in}
use Rattle.semantics.specs.Entries.{State, StartResult, start_on, OutsideResult, outside_on, record_on, TapeResult, tape_on, records_of, core_of, state_of, chain_free}
use Rattle.semantics.specs.Images.{SaveResult, saved_bytes, save_on, LoadResult, load_on}
use Rattle.soundness.specs.Layout.{Layout}

-- ---- calls

-- what a host hands in at a start: the parts that it lends, whatever they hold, the workers, the initial values and the pool
pub record Start : Type 0 where
  pub parts : State
  pub workers : ℕ
  pub values : List ℕ
  pub pool : List ℕ

abbrev pub start_result : Layout → Start → StartResult
start_result L b = start_on L b.parts b.workers b.values b.pool

-- document 01: "a list of calls, each a step entered from outside or a tape", with the slices that the host lends
pub data HostCall : Type 0 where
  outside : (kind worker field value : ℕ) (work : List ℕ) → HostCall
  tape : (bytes work answers : List ℕ) → HostCall

-- "Each call has the state and the pool as the call before it left them"; R-6: "each call has the table too", which is the state's
pub record StateAndPool : Type 0 where
  pub state : State
  pub pool : List ℕ

abbrev pub after_start : Layout → Start → StateAndPool
after_start L b = let o : StartResult = start_result L b in record { state = o.state; pool = o.pool }

abbrev pub outside_result : Layout → StateAndPool → (kind worker field value : ℕ) (work : List ℕ) → OutsideResult
outside_result L h kind worker field value work = outside_on L h.state h.pool work (record_of kind worker field value)

abbrev pub tape_result : Layout → StateAndPool → (bytes work answers : List ℕ) → TapeResult
tape_result L h bytes work answers = tape_on L h.state h.pool work bytes answers

abbrev pub after_call : Layout → StateAndPool → HostCall → StateAndPool
after_call L h (outside kind worker field value work) =
    let o : OutsideResult = outside_result L h kind worker field value work in record { state = o.state; pool = o.pool }
after_call L h (tape bytes work answers) = let o : TapeResult = tape_result L h bytes work answers in record { state = o.state; pool = o.pool }

-- ---- exchanges: a record and the two words that the engine answered

abbrev pub Exchange : Type 0
Exchange = Decoded × (ℕ × ℕ)

-- "a call refused whole feeds it no step": refusals 1 to 6, and 99
abbrev pub refused_whole : ℕ × ℕ → Bool
refused_whole a = leb a.0 6 || eqb a.0 99

-- of each record, the two answer words from place k on
abbrev pub exchanges_from : List ℕ → ℕ → List Decoded → List Exchange
exchanges_from answers k [] = []
exchanges_from answers k (d ∷ ds) = (d, (get_or answers k 0, get_or answers (suc k) 0)) ∷ exchanges_from answers (k + 2) ds

-- what a call feeds to the plain machine, with the engine's answers
abbrev pub exchanges_of : Layout → StateAndPool → HostCall → List Exchange
exchanges_of L h (outside kind worker field value work) =
    let a : ℕ × ℕ = words_in (outside_result L h kind worker field value work).result in
    let one : List Exchange = (record_of kind worker field value, a) ∷ [] in
    cond (refused_whole a) [] one
exchanges_of L h (tape bytes work answers) =
    let o : TapeResult = tape_result L h bytes work answers in
    cond (eqb o.result 0) (exchanges_from o.answers 0 (records_of bytes)) []

abbrev pub records_in : List Exchange → List Decoded
records_in es = map (λ e. e.0) es

abbrev pub answers_in : List Exchange → List (ℕ × ℕ)
answers_in es = map (λ e. e.1) es

-- ---- the pool at each record: a sound state from elsewhere has no history to count

pub record PoolAt : Type 0 where
  -- before it: how many nodes "that rest has", of a write's path (R-2)
  pub rest : ℕ
  -- after it: the nodes on the free chain
  pub free : ℕ

-- of a worker's bottom frame, whatever it is
abbrev pub rest_in : Layout → Core → Decoded → ℕ
rest_in L c None = 0
rest_in L c (Some (Spawn w)) = 0
rest_in L c (Some (Return w)) = 0
rest_in L c (Some (Steal w v)) = 0
rest_in L c (Some (Sync w)) = 0
rest_in L c (Some (Read w x)) = 0
rest_in L c (Some (Write w x v)) = L.rest (height c.head.numbers.splitters) c.pool (acting_in c w).root x
rest_in L c (Some (Fold w r v)) = 0

abbrev pub pool_at : Layout → Core → Decoded → PoolAt
pool_at L c d = record { rest = rest_in L c d; free = chain_free L (state_of (record_on L c d).core) (record_on L c d).core.pool }

-- of the records ds, from the core c on
abbrev pub pools_at : Layout → Core → List Decoded → List PoolAt
pools_at L c [] = []
pools_at L c (d ∷ ds) = pool_at L c d ∷ pools_at L (record_on L c d).core ds

-- the engine's words, with the free nodes counted
abbrev pub core_in : Layout → StateAndPool → Core
core_in L h = core_of h.state h.pool (chain_free L h.state h.pool)

-- ---- a run, with saves and readings among its calls

-- what a run has behind it: the records that were fed, with the engine's answers, and the pool at each
pub record Past : Type 0 where
  pub exchanges : List Exchange
  pub pools : List PoolAt

-- an image that the host keeps, and what the run had behind it at that save: "a run goes on from its saved history"
pub record Saved : Type 0 where
  pub bytes : List ℕ
  pub past : Past

-- what a host holds. Once a reading is refused it has no state until an image is read; `lent` is the pool as it was lent, at the
-- start or for the last reading
pub record Run : Type 0 where
  pub now : StateAndPool
  pub past : Past
  pub images : List Saved
  pub stateless : Bool
  pub lent : List ℕ

-- a step or a tape; a save; a reading of one of the images, into the run's table, and words and a pool that the host lends for it
pub data Call : Type 0 where
  call : HostCall → Call
  save : (work target : List ℕ) → Call
  load : (which : ℕ) (numbers deques pool work : List ℕ) → Call

abbrev pub nothing : Past
nothing = record { exchanges = []; pools = [] }

-- from a state and a pool on
abbrev pub begun : StateAndPool → Run
begun h = record { now = h; past = nothing; images = []; stateless = false; lent = h.pool }

-- image i; one that the host does not keep has no bytes
abbrev pub image_at : List Saved → ℕ → Saved
image_at [] i = record { bytes = []; past = nothing }
image_at (v ∷ vs) zero = v
image_at (v ∷ vs) (suc i) = image_at vs i

abbrev pub past_after : Layout → StateAndPool → Past → HostCall → Past
past_after L h p k =
    let es : List Exchange = exchanges_of L h k in
    record { exchanges = p.exchanges ++ es; pools = p.pools ++ pools_at L (core_in L h) (records_in es) }

abbrev pub save_result : Layout → StateAndPool → List ℕ → List ℕ → SaveResult
save_result L h work target = save_on L h.state h.pool work target

-- R-6: "In a run each call has the table too as the call before it left it"
abbrev pub into_table : Run → List ℕ → List ℕ → State
into_table r ns ds = record { numbers = ns; deques = ds; frames = r.now.state.frames }

abbrev pub load_result : Layout → Run → ℕ → List ℕ → List ℕ → List ℕ → List ℕ → LoadResult
load_result L r i ns ds ws work = load_on L (into_table r ns ds) ws work (image_at r.images i).bytes

-- the image that an accepted save has written
abbrev pub images_after : Layout → Run → List ℕ → List ℕ → List Saved
images_after L r work target =
    let o : SaveResult = save_result L r.now work target in
    let new : List Saved = record { bytes = take (saved_bytes L r.now.state) o.target; past = r.past } ∷ [] in
    cond (eqb o.result 0) (r.images ++ new) r.images

-- "Reading back gives the same state, and a run goes on from its saved history; what came after the save is forgotten."
abbrev pub run_after : Layout → Run → Call → Run
run_after L r (call k) = record { now = after_call L r.now k; past = past_after L r.now r.past k; images = r.images; stateless = r.stateless; lent = r.lent }
run_after L r (save work target) = record { now = r.now; past = r.past; images = images_after L r work target; stateless = r.stateless; lent = r.lent }
run_after L r (load i ns ds ws work) =
    let o : LoadResult = load_result L r i ns ds ws work in
    record {
      now = record { state = o.state; pool = o.pool };
      past = cond (eqb o.result 0) (image_at r.images i).past r.past;
      images = r.images;
      stateless = not (eqb o.result 0);
      lent = ws;
    }

abbrev pub run_of : Layout → Run → List Call → Run
run_of L r [] = r
run_of L r (c ∷ cs) = run_of L (run_after L r c) cs

-- ---- what frames did and read, by the engine's answers; frames and names are those of the plain machine fed the same

-- "100 plus the kind"
abbrev pub says_accepted : ℕ × ℕ → Bool
says_accepted a = leb 100 a.0

-- "the list of values that the engine answered to its reads"
abbrev pub value_answered : Action → ℕ × ℕ → ℕ
value_answered spawn a = 0
value_answered return a = 0
value_answered sync a = 0
value_answered (read x) a = a.1
value_answered (write x v) a = 0
value_answered (fold r v) a = 0

abbrev pub bottom_entry : List Frame → Action → ℕ × ℕ → List Entry
bottom_entry [] act a = []
bottom_entry (q ∷ d) act a = record { frame = q.name; action = act; value = value_answered act a } ∷ []

abbrev pub turn_entry : Machine → Turn → ℕ × ℕ → List Entry
turn_entry M (acting w act) a = bottom_entry (deque M w) act a
turn_entry M (stealing w v) a = []

-- the trace of a run by the engine's answers, from the machine M
abbrev pub trace_from : Machine → List Exchange → List Entry
trace_from M [] = []
trace_from M ((Some st, a) ∷ es) = cond (says_accepted a) (turn_entry M (turn_of st) a) [] ++ trace_from (step M st) es
trace_from M ((None, a) ∷ es) = trace_from M es
