-- R-9: the change-over from four-word nodes to two-word nodes. What it returns and leaves, on all inputs, and runs with one. Definitions only.
use Rattle.soundness.specs.Soundness.{Checked}
use Rattle.soundness.specs.declared.CheckError.{CheckError}
use Rattle.soundness.specs.declared.CheckError.TheVariants.{NoRoom}
use Rattle.std.specs.Prelude.{cond, List, [], ℕ, Err, Ok}
use Rattle.packed.specs.Pack.{converted}
use Rattle.soundness.specs.Layout.{four_words, two_words}
use Rattle.soundness.specs.Soundness.{cleared}
use Rattle.semantics.specs.declared.Refusal.{Refusal}
use Rattle.semantics.specs.declared.Refusal.TheVariants.{Work, Lengths}
use Rattle.semantics.specs.Answers.{refusal_number}
use Rattle.semantics.specs.Entries.{State, fits, numbers_of, checked_state}
use Rattle.semantics.specs.Calls.{Start, StateAndPool, after_start, Run, Call, begun, run_of}

-- ---- the change-over

-- what it leaves: the pool's words and the work slice; the state with its table is only read. And its result, 0 or a refusal
pub record ConvertResult : Type 0 where
  pub pool : List ℕ
  pub work : List ℕ
  pub result : ℕ

-- "a state refused so is left, and its pool too"
abbrev pub convert_refused : List ℕ → List ℕ → Refusal → ConvertResult
convert_refused ws work r = record { pool = ws; work = work; result = refusal_number r }

-- the check's answer, then the change-over
abbrev pub convert_checked : Checked → State → List ℕ → List ℕ → ConvertResult
convert_checked (Err NoRoom) s ws work = convert_refused ws work Work
convert_checked (Err CheckError.Unsound) s ws work = convert_refused ws (cleared (numbers_of s).nodes work) Refusal.Unsound
convert_checked (Ok k) s ws work = record { pool = converted (numbers_of s).nodes ws; work = cleared (numbers_of s).nodes work; result = 0 }

-- "The call checks 5, then 6": "Take a sound state with four-word nodes in a lent pool"
unfoldable pub convert_with : State → List ℕ → List ℕ → ConvertResult
convert_with s ws work = convert_checked (checked_state four_words s ws work) s ws work

unfoldable pub convert_on : State → List ℕ → List ℕ → ConvertResult
convert_on s ws work = cond (fits s) (convert_with s ws work) (convert_refused ws work Lengths)

-- ---- runs with a change-over: "The run goes on"

abbrev pub change_over : StateAndPool → List ℕ → ConvertResult
change_over h work = convert_on h.state h.pool work

-- of a run in the old layout, with the work slice lent for it. Images from before hold old nodes, which the new library refuses by 17; none is kept
abbrev pub changed_over : Run → List ℕ → Run
changed_over r work =
    let o : ConvertResult = change_over r.now work in
    record { now = record { state = r.now.state; pool = o.pool }; past = r.past; images = []; stateless = r.stateless; lent = o.pool }

-- a start and calls in the old layout, the change-over, and calls in the new one
abbrev pub changed_run : Start → List Call → List ℕ → List Call → Run
changed_run b before work after = run_of two_words (changed_over (run_of four_words (begun (after_start four_words b)) before) work) after
