-- R-7's demands over the report's entry, as a host calls it. Statements only; Theory.Reports and Theory.SameReports prove them.
use Rattle.model.specs.Record.{Decoded}
use Rattle.std.specs.Prelude.{◌≡◌, ◌↔◌, ◌≢◌, ◌⊎◌, true, false, List, [], ◌∷◌, map, ℕ, ◌+◌, ◌*◌, ◌/◌, ◌≤◌, ◌<◌, length, get_or, None, Some}
use Rattle.model.specs.declared.Step.{Step}
use Rattle.model.specs.Machine.{Name}
use Rattle.model.specs.Run.{steps_of, one_worker_steps}
use Rattle.model.specs.Clocks.{pair_of}
use Rattle.semantics.specs.Entries.{State, zeros, whole_nodes, records_of, unfit_tape}
use Rattle.semantics.specs.Report.{Lent, ReportResult, fits_report, report_on}
use Rattle.semantics.specs.Calls.{Start, start_result, tape, after_start, tape_result, Call, call}
use Rattle.semantics.specs.Demands.{trace_of, MainReturned, alone_start}
use Rattle.soundness.specs.Layout.{Layout}

-- "One call makes a start, runs one tape and makes the report": the start b, the tape and the lent slices l
abbrev pub report_result : Layout → Start → List ℕ → Lent → ReportResult
report_result L b bytes l = report_on L b.parts b.workers b.values b.pool bytes l

-- the tape has run: a report is made, or 22 withholds it
abbrev pub TapeRan : Layout → Start → List ℕ → Lent → Type 0
TapeRan L b bytes l = ((report_result L b bytes l).result ≡ 0) ⊎ ((report_result L b bytes l).result ≡ 22)

-- ---- refused before anything changes

-- "it checks 1, 2, 21, 3, 4 and 5 before anything changes, and refused so it hands out a state of zeros"; refused by 99 it leaves the parts as they were. For every result
-- but 0 and 22
pub record RefusedReport (L : Layout) (b : Start) (bytes : List ℕ) (l : Lent) : Type 0 where
  pub parts : (report_result L b bytes l).result ≡ 99 → (report_result L b bytes l).state ≡ b.parts
  pub zero : (report_result L b bytes l).result ≢ 99 → (report_result L b bytes l).state ≡ zeros b.parts.frames
  pub pool : (report_result L b bytes l).pool ≡ b.pool
  pub lent : (report_result L b bytes l).lent ≡ l

-- which refusal: 99 first, then the start's, then 4 and 5; else the tape runs
pub record ReportChecks (L : Layout) (b : Start) (bytes : List ℕ) (l : Lent) : Type 0 where
  pub lengths : ((report_result L b bytes l).result ≡ 99) ↔ (fits_report b.parts l ≡ false)
  -- "1, 2, 21, 3"
  pub start : fits_report b.parts l ≡ true → (start_result L b).result ≢ 0 → (report_result L b bytes l).result ≡ (start_result L b).result
  pub tape : fits_report b.parts l ≡ true → (start_result L b).result ≡ 0 → ((report_result L b bytes l).result ≡ 4) ↔ (unfit_tape bytes l.answers ≡ true)
  pub work : fits_report b.parts l ≡ true → (start_result L b).result ≡ 0 → unfit_tape bytes l.answers ≡ false → ((report_result L b bytes l).result ≡ 5) ↔ (length l.work < whole_nodes L b.pool)
  pub ran : fits_report b.parts l ≡ true → (start_result L b).result ≡ 0 → unfit_tape bytes l.answers ≡ false → whole_nodes L b.pool ≤ length l.work → TapeRan L b bytes l

-- ---- the run

-- 22 "withholds only the report and leaves what the run left": once the tape has run, the start was accepted, and state, pool, work slice and answer words are
-- what a tape after it leaves
pub record SameRun (L : Layout) (b : Start) (bytes : List ℕ) (l : Lent) : Type 0 where
  pub starts : (start_result L b).result ≡ 0
  pub runs : (tape_result L (after_start L b) bytes l.work l.answers).result ≡ 0
  pub state : (report_result L b bytes l).state ≡ (tape_result L (after_start L b) bytes l.work l.answers).state
  pub pool : (report_result L b bytes l).pool ≡ (tape_result L (after_start L b) bytes l.work l.answers).pool
  pub work : (report_result L b bytes l).lent.work ≡ (tape_result L (after_start L b) bytes l.work l.answers).work
  pub answers : (report_result L b bytes l).lent.answers ≡ (tape_result L (after_start L b) bytes l.work l.answers).answers

-- ---- the report

-- the records that are steps; the others are refused by 7
abbrev pub valids : List Decoded → List Step
valids [] = []
valids (Some st ∷ ds) = st ∷ valids ds
valids (None ∷ ds) = valids ds

-- work and span beside the plain machine fed the tape's records
abbrev pub pair_after : Layout → Start → List ℕ → ℕ × ℕ
pair_after L b bytes = pair_of b.workers b.values (whole_nodes L b.pool) (length b.parts.frames) (valids (records_of bytes))

-- the report's run: its start, then this one call
abbrev pub report_calls : List ℕ → Lent → List Call
report_calls bytes l = call (tape bytes l.work l.answers) ∷ []

-- the report's four words. "Give work divided by span as a whole quotient with its exact remainder."
pub record PairWords (work span : ℕ) (words : List ℕ) : Type 0 where
  pub quotient : ℕ
  pub remainder : ℕ
  pub are : words ≡ work ∷ span ∷ quotient ∷ remainder ∷ []
  pub exact : work ≡ quotient * span + remainder
  pub small : remainder < span
  pub at_most : span ≤ work

-- once the tape has run
pub record ReportIs (L : Layout) (b : Start) (bytes : List ℕ) (l : Lent) : Type 0 where
  -- 22, "Main has not returned or the span is 0"
  pub made : ((report_result L b bytes l).result ≡ 0) ↔ (MainReturned L b (report_calls bytes l) × ((pair_after L b bytes).1 ≢ 0))
  pub words : (report_result L b bytes l).result ≡ 0 → PairWords (pair_after L b bytes).0 (pair_after L b bytes).1 (report_result L b bytes l).lent.report
  pub withheld : (report_result L b bytes l).result ≡ 22 → (report_result L b bytes l).lent.report ≡ l.report

-- ---- "Two runs with the same frames' steps give the same pair."

-- whatever the workers, values, nodes and places
abbrev pub SamePair : Layout → Start → List ℕ → Lent → Start → List ℕ → Lent → Type 0
SamePair L b bytes l b' bytes' l' =
    (report_result L b bytes l).result ≡ 0 → (report_result L b' bytes' l').result ≡ 0
    → ((p : Name) → steps_of p (trace_of L b (report_calls bytes l)) ≡ steps_of p (trace_of L b' (report_calls bytes' l')))
    → (report_result L b bytes l).lent.report ≡ (report_result L b' bytes' l').lent.report

-- so does the one-worker run, as a tape: of a report with result 0, over any parts that fit, with as many places and whole nodes and long enough slices
pub record AloneFits (L : Layout) (b : Start) (bytes : List ℕ) (l : Lent) (parts : State) (ws bytes₁ : List ℕ) (l₁ : Lent) : Type 0 where
  pub fits : fits_report parts l₁ ≡ true
  pub same_places : length parts.frames ≡ length b.parts.frames
  pub as_many : whole_nodes L ws ≡ whole_nodes L b.pool
  pub records : records_of bytes₁ ≡ map Some (one_worker_steps (trace_of L b (report_calls bytes l)))
  pub fit_tape : unfit_tape bytes₁ l₁.answers ≡ false
  pub long : whole_nodes L ws ≤ length l₁.work

pub record AloneReport (L : Layout) (b : Start) (bytes : List ℕ) (l : Lent) (parts : State) (ws bytes₁ : List ℕ) (l₁ : Lent) : Type 0 where
  pub made : (report_result L (alone_start b parts ws) bytes₁ l₁).result ≡ 0
  pub same : (report_result L (alone_start b parts ws) bytes₁ l₁).lent.report ≡ (report_result L b bytes l).lent.report

-- ---- "in 64 bits": once the tape has run, no word is more than the number of its records, and a slice has fewer than 2 ^ 64 bytes

pub record NoOverflow (L : Layout) (b : Start) (bytes : List ℕ) (l : Lent) : Type 0 where
  pub clocks : (i : ℕ) → get_or (report_result L b bytes l).lent.clocks i 0 ≤ length bytes / 8
  pub report : (report_result L b bytes l).result ≡ 0 → (i : ℕ) → get_or (report_result L b bytes l).lent.report i 0 ≤ length bytes / 8
