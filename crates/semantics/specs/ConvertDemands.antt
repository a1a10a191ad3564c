-- R-9: what holds of a change-over, and demands 2 and 3 for runs with one. Statements only; Theory proves them.
use Rattle.std.specs.Prelude.{◌≡◌, cond, false, List, [], ◌∷◌, ℕ, ◌*◌, ◌≤◌, length, take, drop, replicate, ltb}
use mathlib.Core.List.{Memᴰ as In}
use Rattle.model.specs.Run.{Entry}
use Rattle.soundness.specs.Layout.{four_words, two_words}
use Rattle.soundness.specs.Soundness.{cleared}
use Rattle.semantics.specs.Entries.{State, fits, numbers_of, is_sound, chain_free, whole_nodes}
use Rattle.semantics.specs.Images.{saved_bytes, load_on}
use Rattle.semantics.specs.Calls.{Start, StateAndPool, answers_in, Run, Call, call, save, load, run_after, run_of, trace_from}
use Rattle.semantics.specs.Demands.{Answers, from_start, plain_start, plain_begun, plain_of, before_check, run_from, alone_start, one_worker_calls, OneWorker}
use Rattle.semantics.specs.Matching.{AsManyNodes, SoundMatch, SavedAs}
use Rattle.semantics.specs.Convert.{convert_on, change_over, changed_run}

-- ---- demand 1: what it returns and leaves

-- "The call checks 5, then 6", each on its condition only; 99 comes before
abbrev pub ConvertChecks : State → List ℕ → List ℕ → Type 0
ConvertChecks s ws work =
    (convert_on s ws work).result ≡
    cond (fits s) (cond (ltb (length work) (numbers_of s).nodes) 5 (cond (is_sound four_words s ws) 0 6)) 99

-- "a state refused so is left, and its pool too"
abbrev pub RefusedConvert : State → List ℕ → List ℕ → Type 0
RefusedConvert s ws work = (convert_on s ws work).pool ≡ ws

-- document 01: "after a call that reached it, its first words, one per recorded node, are zero and the others are unchanged"
abbrev pub WorkAfterConvert : State → List ℕ → List ℕ → Type 0
WorkAfterConvert s ws work = (convert_on s ws work).work ≡ cond (before_check (convert_on s ws work).result) work (cleared (numbers_of s).nodes work)

-- an accepted change-over: sound in both layouts, and the new pool unpacks to the old one (R-8's relation), with as many free nodes
pub record AcceptedConvert (s : State) (ws work : List ℕ) : Type 0 where
  pub match : SoundMatch s (convert_on s ws work).pool ws
  pub same_free : chain_free two_words s (convert_on s ws work).pool ≡ chain_free four_words s ws
  pub same_length : length (convert_on s ws work).pool ≡ length ws
  -- "in the front of the same slice, the old nodes' remaining words zero"
  pub remaining : take (2 * (numbers_of s).nodes) (drop (2 * (numbers_of s).nodes) (convert_on s ws work).pool) ≡ replicate (2 * (numbers_of s).nodes) 0
  -- "Words past the old nodes never change."
  pub beyond : drop (4 * (numbers_of s).nodes) (convert_on s ws work).pool ≡ drop (4 * (numbers_of s).nodes) ws

-- a second change-over of the same pool never changes it; from four nodes on it is refused by 6
abbrev pub SameTwice : State → List ℕ → List ℕ → List ℕ → Type 0
SameTwice s ws work work' = (convert_on s (convert_on s ws work).pool work').pool ≡ (convert_on s ws work).pool

abbrev pub RefusedTwice : State → List ℕ → List ℕ → List ℕ → Type 0
RefusedTwice s ws work work' = 4 ≤ (numbers_of s).nodes → (numbers_of s).nodes ≤ length work' → (convert_on s (convert_on s ws work).pool work').result ≡ 6

-- an image that the old library saved is refused by 17, into any parts that fit
abbrev pub OldImageRefused : State → List ℕ → List ℕ → State → List ℕ → List ℕ → Type 0
OldImageRefused s ws image parts lent work = SavedAs four_words s ws image → (load_on two_words parts lent work image).result ≡ 17

-- ---- demand 2, for runs with an accepted change-over

-- the plain machine is that of the start in the old layout; it is fed nothing at the change-over
abbrev pub ChangedDemand2 : Start → List Call → List ℕ → List Call → Type 0
ChangedDemand2 b before work after = Answers two_words from_start (plain_begun four_words b) (whole_nodes four_words b.pool) (changed_run b before work after)

-- a sound state handed in otherwise: the plain machine of what its trees hold is the same before and after
abbrev pub SameMachine : StateAndPool → List ℕ → Type 0
SameMachine h work = plain_of two_words (record { state = h.state; pool = (change_over h work).pool }) ≡ plain_of four_words h

-- ---- demand 3, for such runs

abbrev pub changed_trace : Start → List Call → List ℕ → List Call → List Entry
changed_trace b before work after = trace_from (plain_start four_words b) (changed_run b before work after).past.exchanges

abbrev pub ChangedReturned : Start → List Call → List ℕ → List Call → Type 0
ChangedReturned b before work after = In (102, 3) (answers_in (changed_run b before work after).past.exchanges)

-- the one-worker run is one in the new layout, as today's library runs it
abbrev pub ChangedDemand3 : Start → List Call → List ℕ → List Call → State → List ℕ → (ℕ → List ℕ) → Type 0
ChangedDemand3 b before work after parts ws works =
    OneWorker two_words (changed_trace b before work after) (changed_run b before work after) (alone_start b parts ws) (one_worker_calls (changed_trace b before work after) works)

-- ---- "The run goes on, and the steps that follow answer as if it had begun in the new layout."

-- the same call in the new layout (first) and the old: a save into targets that are long enough in both, or too short; a reading of the same of the run's images
-- into pools with as many nodes
abbrev pub SameCall : Run → Run → Call → Call → Type 0
SameCall r₂ r₄ (call k) (call k') = k ≡ k'
SameCall r₂ r₄ (save work target) (save work' target') =
    (work ≡ work') × (ltb (length target) (saved_bytes two_words r₂.now.state) ≡ ltb (length target') (saved_bytes four_words r₄.now.state))
SameCall r₂ r₄ (load i ns ds ws work) (load i' ns' ds' ws' work') = (i ≡ i') × (ns ≡ ns') × (ds ≡ ds') × (work ≡ work') × AsManyNodes ws ws'
SameCall r₂ r₄ (call k) (save work target) = ⊥
SameCall r₂ r₄ (call k) (load i ns ds ws work) = ⊥
SameCall r₂ r₄ (save work target) (call k) = ⊥
SameCall r₂ r₄ (save work target) (load i ns ds ws work') = ⊥
SameCall r₂ r₄ (load i ns ds ws work) (call k) = ⊥
SameCall r₂ r₄ (load i ns ds ws work) (save work' target) = ⊥

abbrev pub SameCalls : Run → Run → List Call → List Call → Type 0
SameCalls r₂ r₄ [] [] = Unit {0}
SameCalls r₂ r₄ [] (c ∷ cs) = ⊥
SameCalls r₂ r₄ (c ∷ cs) [] = ⊥
SameCalls r₂ r₄ (c₂ ∷ cs₂) (c₄ ∷ cs₄) = SameCall r₂ r₄ c₂ c₄ × SameCalls (run_after two_words r₂ c₂) (run_after four_words r₄ c₄) cs₂ cs₄

-- the same start, in a pool with as many nodes
abbrev pub in_pool : Start → List ℕ → Start
in_pool b ws = record { parts = b.parts; workers = b.workers; values = b.values; pool = ws }

-- without the images from before
abbrev pub without_images : Run → Run
without_images r = record { now = r.now; past = r.past; images = []; stateless = r.stateless; lent = r.lent }

-- the runs have answered the same, to the same records; and hold the same state and the same N nodes, if they hold any
pub record SameRuns (N : ℕ) (r r' : Run) : Type 0 where
  pub exchanges : r.past.exchanges ≡ r'.past.exchanges
  pub stateless : r.stateless ≡ r'.stateless
  pub state : r.stateless ≡ false → r.now.state ≡ r'.now.state
  pub nodes : r.stateless ≡ false → take (2 * N) r.now.pool ≡ take (2 * N) r'.now.pool

-- a run with a change-over, and one in the new layout from the beginning, with the same calls
abbrev pub AsIfBegunSo : Start → List Call → List ℕ → List Call → List ℕ → List Call → Type 0
AsIfBegunSo b before work after ws before₂ =
    SameRuns (whole_nodes four_words b.pool) (changed_run b before work after) (run_of two_words (without_images (run_from two_words (in_pool b ws) before₂)) after)
