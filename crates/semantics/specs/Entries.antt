-- The entries: start, a step from outside, a tape. What each returns and leaves, on all inputs. Definitions only.
use Rattle.semantics.specs.Answers.{Answer}
use Rattle.soundness.specs.Soundness.{Checked}
use Rattle.soundness.specs.declared.CheckError.{CheckError}
use Rattle.soundness.specs.declared.CheckError.TheVariants.{NoRoom}
use Rattle.std.specs.Prelude.{Bool, cond, not, ◌||◌, ◌&&◌, List, [], ◌∷◌, ℕ, zero, suc, ◌+◌, ◌*◌, ◌/◌, ◌%◌, length, set, replicate, eqb, ltb, Err, None, Ok, Some}
use Rattle.sizes.specs.Sizes.{height, tree_nodes}
use Rattle.frames.specs.Widths.{max_places, deque_words}
use Rattle.frames.specs.declared.Frame.{Frame}
use Rattle.frames.specs.Frames.{init_frames, first_free}
use Rattle.frames.specs.Deques.{init_deques}
use Rattle.soundness.specs.declared.Numbers.{Numbers}
use Rattle.soundness.specs.Numbers.{numbers_in, number_words, number_count, total_count, totals_in}
use Rattle.soundness.specs.Soundness.{sound, count_of_free, checked, cleared}
use Rattle.model.specs.Record.{Decoded, decode_at}
use Rattle.semantics.specs.declared.Head.{Head}
use Rattle.semantics.specs.declared.Refusal.{Refusal}
use Rattle.semantics.specs.declared.Refusal.TheVariants.{Values, Workers, Places, Nodes, Tape, Work, Record, Lengths}
use Rattle.semantics.specs.Answers.{refusal_number, answer_words, both_words}
use Rattle.semantics.specs.Core.{Core, StepResult, step_on}
use Rattle.soundness.specs.Layout.{Layout}

-- ---- the state that a host lends, in three parts, in the order of document 02's R-1

-- the words of "workers, splitters, nodes, first free node, first free frame place", R-5's "four totals" and R-6's length; those of "each of 8 workers
-- its deque length and .. places for its frames from the top"; R-6: "The host now lends the frame table, a slice of frame records"
pub record State : Type 0 where
  pub numbers : List ℕ
  pub deques : List ℕ
  pub frames : List Frame

-- the parts of words have their lengths; else the entries' own refusal, 99, comes before all others and nothing changes. The table may have any length
abbrev pub fits : State → Bool
fits s = eqb (length s.numbers) number_count && eqb (length s.deques) deque_words

abbrev pub numbers_of : State → Numbers
numbers_of s = numbers_in s.numbers

abbrev pub totals_of : State → List ℕ
totals_of s = totals_in s.numbers

-- with k free nodes
abbrev pub head_of : Numbers → ℕ → Head
head_of s k = record { numbers = s; height = height s.splitters; free_count = k }

abbrev pub core_of : State → List ℕ → ℕ → Core
core_of s ws k = record { head = head_of (numbers_of s) k; totals = totals_of s; deques = s.deques; frames = s.frames; pool = ws }

abbrev pub state_of : Core → State
state_of c = record { numbers = number_words c.head.numbers c.totals; deques = c.deques; frames = c.frames }

-- soundness of a state with the pool ws, the check's answer with the work slice ks, and the nodes on the free chain
abbrev pub is_sound : Layout → State → List ℕ → Bool
is_sound L s ws = sound L (numbers_of s) (totals_of s) s.deques s.frames ws

abbrev pub checked_state : Layout → State → List ℕ → List ℕ → Checked
checked_state L s ws ks = checked L (numbers_of s) (totals_of s) s.deques s.frames ws ks

abbrev pub chain_free : Layout → State → List ℕ → ℕ
chain_free L s ws = count_of_free L (numbers_of s) ws

-- ---- start

-- "a refused start hands out a state of zeros"; fs is the frame table
abbrev pub zeros : List Frame → State
zeros fs = record { numbers = replicate number_count 0; deques = replicate deque_words 0; frames = fs }

-- what a start leaves: the state and the pool's words; and its result, 0 or a refusal
pub record StartResult : Type 0 where
  pub state : State
  pub pool : List ℕ
  pub result : ℕ

-- "the pool's whole nodes"
abbrev pub whole_nodes : Layout → List ℕ → ℕ
whole_nodes L ws = length ws / L.words

-- document 01's start: "Main, depth 0, is alone on worker 0's deque", in place 0; R-6: the table's length is recorded
abbrev pub first_numbers : ℕ → ℕ → ℕ → ℕ → ℕ → Numbers
first_numbers workers n nodes free places =
    record { workers = workers; splitters = n; nodes = nodes; free_node = free; free_place = first_free places; places = places }

-- in the lent table fs, whatever it holds
abbrev pub first_state : ℕ → ℕ → ℕ → ℕ → List Frame → State
first_state workers n nodes free fs =
    record { numbers = number_words (first_numbers workers n nodes free (length fs)) (replicate total_count 0); deques = init_deques (replicate deque_words 0); frames = init_frames fs }

abbrev pub start_accepted : Layout → ℕ → List ℕ → List Frame → List ℕ → StartResult
start_accepted L workers vs fs ws =
    let p : List ℕ × ℕ = L.start ws (length vs) (whole_nodes L ws) vs in
    record { state = first_state workers (length vs) (whole_nodes L ws) p.1 fs; pool = p.0; result = 0 }

-- table and pool are left as they were
abbrev pub start_refused : Refusal → List Frame → List ℕ → StartResult
start_refused r fs ws = record { state = zeros fs; pool = ws; result = refusal_number r }

-- 1. "there are 0 or more than 256 initial values" 2. "there are 0 or more than 8 workers" 21. "the table has 0 or more than 256 places, after 2"
-- 3. "the pool has fewer than T(n) or more than 16,384 nodes"
unfoldable pub start_with : Layout → ℕ → List ℕ → List Frame → List ℕ → StartResult
start_with L workers vs fs ws =
    cond (eqb (length vs) 0 || ltb 256 (length vs)) (start_refused Values fs ws)
    (cond (eqb workers 0 || ltb 8 workers) (start_refused Workers fs ws)
    (cond (eqb (length fs) 0 || ltb max_places (length fs)) (start_refused Places fs ws)
    (cond (ltb (whole_nodes L ws) (tree_nodes (length vs)) || ltb 16384 (whole_nodes L ws)) (start_refused Nodes fs ws) (start_accepted L workers vs fs ws))))

-- the start, over the lent parts s, whatever they hold
unfoldable pub start_on : Layout → State → ℕ → List ℕ → List ℕ → StartResult
start_on L s workers vs ws = cond (fits s) (start_with L workers vs s.frames ws) (record { state = s; pool = ws; result = refusal_number Lengths })

-- ---- a step from outside

-- a record's step, or refusal 7
abbrev pub record_on : Layout → Core → Decoded → StepResult
record_on L c (Some st) = step_on L c st
record_on L c None = record { core = c; answer = Err Record }

-- what a step leaves: the state, the pool's words and the work slice; and its result, the two answer words in one number
pub record OutsideResult : Type 0 where
  pub state : State
  pub pool : List ℕ
  pub work : List ℕ
  pub result : ℕ

abbrev pub answer_result : Answer → ℕ
answer_result a = both_words (answer_words a)

abbrev pub outside_done : StepResult → List ℕ → OutsideResult
outside_done d work = record { state = state_of d.core; pool = d.core.pool; work = work; result = answer_result d.answer }

abbrev pub outside_refused : State → List ℕ → List ℕ → Refusal → OutsideResult
outside_refused s ws work r = record { state = s; pool = ws; work = work; result = answer_result (Err r) }

-- the check's answer, then the step
abbrev pub outside_checked : Layout → Checked → State → List ℕ → List ℕ → Decoded → OutsideResult
outside_checked L (Err NoRoom) s ws work d = outside_refused s ws work Work
outside_checked L (Err CheckError.Unsound) s ws work d = outside_refused s ws (cleared (numbers_of s).nodes work) Refusal.Unsound
outside_checked L (Ok k) s ws work d = outside_done (record_on L (core_of s ws k) d) (cleared (numbers_of s).nodes work)

-- "A step entered from outside checks soundness first"
unfoldable pub outside_with : Layout → State → List ℕ → List ℕ → Decoded → OutsideResult
outside_with L s ws work d = outside_checked L (checked_state L s ws work) s ws work d

unfoldable pub outside_on : Layout → State → List ℕ → List ℕ → Decoded → OutsideResult
outside_on L s ws work d = cond (fits s) (outside_with L s ws work d) (outside_refused s ws work Lengths)

-- ---- a tape

-- "each 8-byte record": k records from the byte `at` on
unfoldable pub records_from : ℕ → List ℕ → ℕ → List Decoded
records_from zero tape at = []
records_from (suc k) tape at = decode_at tape at ∷ records_from k tape (at + 8)

abbrev pub records_of : List ℕ → List Decoded
records_of tape = records_from (length tape / 8) tape 0

-- "Each record gives two answer words"
abbrev pub put_answer : List ℕ → ℕ → Answer → List ℕ
put_answer answers k a = set (set answers k (answer_words a).0) (suc k) (answer_words a).1

-- a core and the answer words
pub record RecordsResult : Type 0 where
  pub core : Core
  pub answers : List ℕ

abbrev pub records_result : Core → List ℕ → RecordsResult
records_result c answers = record { core = c; answers = answers }

-- the records in order, their answer words from place k on; "and the tape goes on"
unfoldable pub run_on : Layout → RecordsResult → ℕ → List Decoded → RecordsResult
run_on L r k [] = r
run_on L r k (d ∷ ds) = let o : StepResult = record_on L r.core d in run_on L (records_result o.core (put_answer r.answers k o.answer)) (k + 2) ds

-- what a tape leaves: the state, the pool's words, the work slice and the answer words; and its result, 0 or a refusal
pub record TapeResult : Type 0 where
  pub state : State
  pub pool : List ℕ
  pub work : List ℕ
  pub answers : List ℕ
  pub result : ℕ

abbrev pub tape_done : RecordsResult → List ℕ → TapeResult
tape_done r work = record { state = state_of r.core; pool = r.core.pool; work = work; answers = r.answers; result = 0 }

abbrev pub tape_refused : State → List ℕ → List ℕ → List ℕ → Refusal → TapeResult
tape_refused s ws work answers r = record { state = s; pool = ws; work = work; answers = answers; result = refusal_number r }

abbrev pub tape_checked : Layout → Checked → State → List ℕ → List ℕ → List ℕ → List ℕ → TapeResult
tape_checked L (Err NoRoom) s ws work tape answers = tape_refused s ws work answers Work
tape_checked L (Err CheckError.Unsound) s ws work tape answers = tape_refused s ws (cleared (numbers_of s).nodes work) answers Refusal.Unsound
tape_checked L (Ok k) s ws work tape answers = tape_done (run_on L (records_result (core_of s ws k) answers) 0 (records_of tape)) (cleared (numbers_of s).nodes work)

-- 4. "The tape is not a multiple of 8 bytes, or the answer slice has fewer than two words per record."
abbrev pub unfit_tape : List ℕ → List ℕ → Bool
unfit_tape tape answers = not (eqb (length tape % 8) 0) || ltb (length answers) (2 * (length tape / 8))

-- "a tape checks once"
unfoldable pub tape_with : Layout → State → List ℕ → List ℕ → List ℕ → List ℕ → TapeResult
tape_with L s ws work tape answers = cond (unfit_tape tape answers) (tape_refused s ws work answers Tape) (tape_checked L (checked_state L s ws work) s ws work tape answers)

unfoldable pub tape_on : Layout → State → List ℕ → List ℕ → List ℕ → List ℕ → TapeResult
tape_on L s ws work tape answers = cond (fits s) (tape_with L s ws work tape answers) (tape_refused s ws work answers Lengths)
