-- What the promises of the entries and of the functions below them are said in, beside the definitions of the crate semantics. Definitions only.
use Rattle.std.specs.Prelude.{◌≡◌, Bool, true, false, cond, ◌||◌, ◌&&◌, List, [], ◌∷◌, ◌++◌, ℕ, length, eqb, ltb, Option, Some, None, Result, Ok, Err, ⊤}
use Rattle.frames.specs.Widths.{max_places}
use Rattle.frames.specs.declared.Frame.{Frame}
use Rattle.sizes.specs.Sizes.{tree_nodes}
use Rattle.frame_check.specs.Algorithm.{live_end}
use Rattle.soundness.specs.declared.Numbers.{Numbers}
use Rattle.soundness.specs.Soundness.{Checked, numbers_sound, frames_sound, cleared}
use Rattle.semantics.specs.declared.Refusal.{Refusal}
use Rattle.semantics.specs.declared.Refusal.TheVariants.{Values, Workers, Places, Nodes, Tape, Work}
use Rattle.semantics.specs.Entries.{State, whole_nodes, unfit_tape, numbers_of, state_of, is_sound, checked_state, RecordsResult}
use Rattle.semantics.specs.Images.{LoadResult, records_zero, nodes_zero}
use Rattle.semantics.specs.Promises.{parts}
use Rattle.semantics.specs.Answers.{refusal_number}
use Rattle.soundness.specs.Layout.{Layout, two_words}

-- the number of a call's result: 0, or that of its refusal
abbrev pub result_number : Result ⊤ Refusal → ℕ
result_number (Ok _) = 0
result_number (Err r) = refusal_number r

-- ---- tests

-- the first test that holds refuses
abbrev pub tested : List (Bool × Refusal) → Result ⊤ Refusal
tested [] = Ok tt
tested (t ∷ ts) = cond t.0 (Err t.1) (tested ts)

-- refusals 1, 2, 21 and 3, of a start with n initial values, a table of so many places and a pool of so many whole nodes
abbrev pub start_tests : ℕ → ℕ → ℕ → ℕ → List (Bool × Refusal)
start_tests workers n places nodes =
    (eqb n 0 || ltb 256 n, Values) ∷ (eqb workers 0 || ltb 8 workers, Workers) ∷ (eqb places 0 || ltb max_places places, Places)
    ∷ (ltb nodes (tree_nodes n) || ltb 16384 nodes, Nodes) ∷ []

-- refusals 1, 2, 21, 3, 4 and 5 of a report
abbrev pub report_tests : ℕ → List ℕ → ℕ → List ℕ → List ℕ → List ℕ → List ℕ → List (Bool × Refusal)
report_tests workers vs places ws work tape answers =
    start_tests workers (length vs) places (whole_nodes two_words ws) ++ ((unfit_tape tape answers, Tape) ∷ (ltb (length work) (whole_nodes two_words ws), Work) ∷ [])

-- ---- the check

-- the check of numbers, deques and frames of a state whose pool has nodes of the layout L: one more than the last place where a frame lives, if they are sound
abbrev pub tables_checked : Layout → Numbers → List ℕ → List Frame → List ℕ → Option ℕ
tables_checked L n ds fs ws = cond (numbers_sound L n fs ws && frames_sound n.workers n.free_place ds fs) (Some (live_end fs)) None

-- the answer k of the check of the state s and the pool ws, and the work slice, before and after it
abbrev pub IsCheck : Layout → State → List ℕ → List ℕ → List ℕ → Checked → Type 0
IsCheck L s ws ks ks' k = (ks' ≡ cleared (numbers_of s).nodes ks) × (k ≡ checked_state L s ws ks)

-- ---- tapes and images

-- the parts, the pool ws and the answer words rs are those that a tape's records leave
pub record IsRun (o : RecordsResult) (ns ds : List ℕ) (fs : List Frame) (ws rs : List ℕ) : Type 0 where
  pub state : parts ns ds fs ≡ state_of o.core
  pub pool : ws ≡ o.core.pool
  pub answers : rs ≡ o.answers

-- the table fs, the pool ws, the work slice ks and the result r are those of a reading's result o, and so are numbers and deques if nothing is refused
pub record IsLoading (o : LoadResult) (ns ds : List ℕ) (fs : List Frame) (ws ks : List ℕ) (r : ℕ) : Type 0 where
  pub result : r ≡ o.result
  pub state : r ≡ 0 → parts ns ds fs ≡ o.state
  pub table : fs ≡ o.state.frames
  pub pool : ws ≡ o.pool
  pub work : ks ≡ o.work

-- the check of what was read, the state s and the pool ws, leaves the table fs, the pool ws' and the result r: nothing changes, or all of it is zero
pub record IsRechecked (s : State) (ws ks : List ℕ) (fs : List Frame) (ws' ks' : List ℕ) (r : ℕ) : Type 0 where
  pub sound : is_sound two_words s ws ≡ true → (r ≡ 0) × (fs ≡ s.frames) × (ws' ≡ ws)
  pub unsound : is_sound two_words s ws ≡ false → (r ≡ 6) × (fs ≡ records_zero s.frames) × (ws' ≡ nodes_zero two_words ws)
  pub work : ks' ≡ cleared (numbers_of s).nodes ks
