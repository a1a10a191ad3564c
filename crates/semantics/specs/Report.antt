-- R-7: "One call makes a start, runs one tape and makes the report". What it returns and leaves, on all inputs. Definitions only.
use Rattle.std.specs.Prelude.{Bool, cond, ◌&&◌, List, [], ◌∷◌, ℕ, ◌*◌, ◌/◌, ◌%◌, length, eqb, ltb}
use Rattle.semantics.specs.declared.Refusal.TheVariants.{Tape, Work, Span, Lengths}
use Rattle.semantics.specs.Answers.{refusal_number}
use Rattle.semantics.specs.Entries.{State, fits, zeros, whole_nodes, chain_free, core_of, StartResult, start_with, TapeResult, tape_with, records_of, unfit_tape}
use Rattle.semantics.specs.Timing.{Timing, timing_at_start, timed_over}
use Rattle.soundness.specs.Layout.{Layout}

-- the slices that a report is lent beside a start's: the work slice, the answer words, the clock words and the report's four words
pub record Lent : Type 0 where
  pub work : List ℕ
  pub answers : List ℕ
  pub clocks : List ℕ
  pub report : List ℕ

-- what it leaves: the state, the pool's words and the lent slices; and its result, 0 or a refusal
pub record ReportResult : Type 0 where
  pub state : State
  pub pool : List ℕ
  pub lent : Lent
  pub result : ℕ

-- two clock words for each place, four words for the report; else 99, as for the parts of the state
abbrev pub fits_report : State → Lent → Bool
fits_report s l = fits s && (eqb (length l.clocks) (2 * length s.frames) && eqb (length l.report) 4)

-- "it checks 1, 2, 21, 3, 4 and 5 before anything changes, and refused so it hands out a state of zeros"
abbrev pub report_refused : State → List ℕ → Lent → ℕ → ReportResult
report_refused s ws l r = record { state = zeros s.frames; pool = ws; lent = l; result = r }

-- work, span, and "work divided by span as a whole quotient with its exact remainder"
abbrev pub report_words : Timing → List ℕ
report_words t = t.work ∷ t.span ∷ t.work / t.span ∷ t.work % t.span ∷ []

-- 22. "Main has not returned or the span is 0": the span is 0 before Main's return. It "withholds only the report and leaves what the run left"
abbrev pub report_done : TapeResult → Timing → List ℕ → ReportResult
report_done o t words =
    record {
      state = o.state;
      pool = o.pool;
      lent = record { work = o.work; answers = o.answers; clocks = t.clocks; report = cond (eqb t.span 0) words (report_words t) };
      result = cond (eqb t.span 0) (refusal_number Span) 0;
    }

-- the clocks of a tape from the state s with the pool ws
abbrev pub timing_of : Layout → State → List ℕ → List ℕ → List ℕ → Timing
timing_of L s ws tape clocks = timed_over L (core_of s ws (chain_free L s ws)) (records_of tape) (timing_at_start clocks)

-- a tape after the start o
abbrev pub report_started : Layout → StartResult → List ℕ → Lent → ReportResult
report_started L o tape l = report_done (tape_with L o.state o.pool l.work tape l.answers) (timing_of L o.state o.pool tape l.clocks) l.report

unfoldable pub report_with : Layout → State → ℕ → List ℕ → List ℕ → List ℕ → Lent → ReportResult
report_with L s workers vs ws tape l =
    let o : StartResult = start_with L workers vs s.frames ws in
    cond (eqb o.result 0)
    (cond (unfit_tape tape l.answers) (report_refused s ws l (refusal_number Tape))
    (cond (ltb (length l.work) (whole_nodes L ws)) (report_refused s ws l (refusal_number Work)) (report_started L o tape l)))
    (report_refused s ws l o.result)

-- over the lent parts s, whatever they hold
unfoldable pub report_on : Layout → State → ℕ → List ℕ → List ℕ → List ℕ → Lent → ReportResult
report_on L s workers vs ws tape l = cond (fits_report s l) (report_with L s workers vs ws tape l) (record { state = s; pool = ws; lent = l; result = refusal_number Lengths })
