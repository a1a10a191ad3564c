-- R-7: what a report does, in cases: which test refuses it, or what the run leaves.
use Rattle.std.specs.Prelude.{◌≡◌, ◌≢◌, ◌⊎◌, true, false, cond, ◌&&◌, ◌||◌, List, ℕ, ◌*◌, ◌≤◌, ◌<◌, length, eqb}
use Rattle.std.proofs.Common.{sym, ap, ap₂, ◌∙◌, arith, eqb-true, eq-eqb, ne_eqb, lt-ltb, le-ltb, ltb-true, ltb-false, le-leb}
use Rattle.std.proofs.Math.Logic.{inl, inr}
use Rattle.std.proofs.Math.Decide.{ℕ_discrete}
use Rattle.std.proofs.Math.Dec.{ltb}
use Rattle.words.specs.Tests.{decided, both}
use Rattle.sizes.specs.Sizes.{tree_nodes}
use Rattle.frames.specs.Widths.{max_places}
use Rattle.frames.specs.declared.Frame.{Frame}
use Rattle.semantics.specs.Core.{Core}
use Rattle.semantics.specs.Entries.{State, fits, whole_nodes, StartResult, start_accepted, start_with, start_on, state_of, TapeResult, tape_with, tape_on, records_of, unfit_tape}
use Rattle.semantics.specs.Timing.{Timing, timing_at_start, timed_over}
use Rattle.semantics.specs.Report.{Lent, ReportResult, fits_report, report_refused, report_done, timing_of, report_started, report_with, report_on}
use Rattle.semantics.specs.Calls.{Start, start_result, after_start, tape_result}
use Rattle.semantics.specs.Demands.{plain_start, plain_begun}
use Rattle.semantics.specs.ReportDemands.{report_result}
use Rattle.semantics.specs.Promises.{Fits}
use Rattle.semantics.proofs.Theory.Fitting.{fits_true, true_fits}
use Rattle.semantics.proofs.Theory.Starts.{Fit, fit_started, started_fit}
use Rattle.semantics.proofs.Theory.StartRelates.{first_core}
use Rattle.semantics.proofs.Theory.SoundSteps.{Carried}
use Rattle.semantics.proofs.Theory.Runs.{core-fits, core-counted, tape_done_lem}
use Rattle.semantics.proofs.Theory.StartedRuns.{carried, start_follows}
use Rattle.soundness.specs.Layout.{Layout}
use Rattle.semantics.proofs.Theory.Pools.{PoolLaws}

module _ (layout : Layout) (pools : PoolLaws layout) where
  -- a start's refusals are 1, 2, 3 and 21
  pub start_low : (workers : ℕ) (vs : List ℕ) (fs : List Frame) (ws : List ℕ) → (start_with layout workers vs fs ws).result ≤ 21
  unfolding start_with
  start_low workers vs fs ws = elim (decided (eqb (length vs) 0 || ltb 256 (length vs))) [
    | inl a ↦ rw a (omega arith)
    | inr a ↦ rw a (elim (decided (eqb workers 0 || ltb 8 workers)) [
      | inl d ↦ rw d (omega arith)
      | inr d ↦ rw d (elim (decided (eqb (length fs) 0 || ltb max_places (length fs))) [
        | inl e ↦ rw e (omega arith)
        | inr e ↦ rw e (elim (decided (ltb (whole_nodes layout ws) (tree_nodes (length vs)) || ltb 16384 (whole_nodes layout ws))) [ inl h ↦ rw h (omega arith) | inr h ↦ rw h (omega arith) ])
      ])
    ])
  ]

  module _ (b : Start) (bytes : List ℕ) (l : Lent) where
    abbrev o : ReportResult
    o = report_result layout b bytes l

    abbrev s : State
    s = b.parts

    abbrev ws : List ℕ
    ws = b.pool

    -- the core after the start
    abbrev pub start_core : Core
    start_core = first_core layout b.workers b.values s.frames ws

    -- the clocks that the run leaves, and what the tape leaves
    abbrev pub timing : Timing
    timing = timed_over layout start_core (records_of bytes) (timing_at_start l.clocks)

    abbrev pub tape_run : TapeResult
    tape_run = tape_result layout (after_start layout b) bytes l.work l.answers

    -- ---- refused

    pub lengths_is : fits_report s l ≡ false → o ≡ record { state = s; pool = ws; lent = l; result = 99 }
    unfolding report_on
    lengths_is f = rw f

    module _ (f : fits_report s l ≡ true) where
      pub parts_fit : Fits s
      parts_fit = true_fits s (both (fits s) (eqb (length l.clocks) (2 * length s.frames) && eqb (length l.report) 4) f).0

      pub clocks_long : length l.clocks ≡ 2 * length s.frames
      clocks_long =
          let x = (both (fits s) (eqb (length l.clocks) (2 * length s.frames) && eqb (length l.report) 4) f).1 in
          eqb-true (length l.clocks) (2 * length s.frames) (both (eqb (length l.clocks) (2 * length s.frames)) (eqb (length l.report) 4) x).0

      start_is : start_result layout b ≡ start_with layout b.workers b.values s.frames ws
      unfolding start_on
      start_is = rw (fits_true s parts_fit)

      pub start_few : (start_result layout b).result ≤ 21
      start_few = omega (arith, ap (λ (x : StartResult). x.result) start_is, start_low b.workers b.values s.frames ws)

      -- the tests after 99, of the start's result x
      abbrev by_start : StartResult → ReportResult
      by_start x =
          cond (eqb x.result 0)
          (cond (unfit_tape bytes l.answers) (report_refused s ws l 4) (cond (ltb (length l.work) (whole_nodes layout ws)) (report_refused s ws l 5) (report_started layout x bytes l)))
          (report_refused s ws l x.result)

      with_is : o ≡ by_start (start_result layout b)
      unfolding report_on report_with
      with_is = rw f (ap by_start (sym start_is))

      pub start_refused_lem : (start_result layout b).result ≢ 0 → o ≡ report_refused s ws l (start_result layout b).result
      start_refused_lem n = with_is ∙ rw (ne_eqb (start_result layout b).result 0 n)

      module _ (taken : (start_result layout b).result ≡ 0) where
        pub tape_refused_lem : unfit_tape bytes l.answers ≡ true → o ≡ report_refused s ws l 4
        tape_refused_lem u = with_is ∙ rw (eq-eqb (start_result layout b).result 0 taken, u)

        pub work_refused : unfit_tape bytes l.answers ≡ false → length l.work < whole_nodes layout ws → o ≡ report_refused s ws l 5
        work_refused u k = with_is ∙ rw (eq-eqb (start_result layout b).result 0 taken, u, lt-ltb (length l.work) (whole_nodes layout ws) k)

        -- ---- the tape runs

        fit : Fit layout b.workers b.values s.frames ws
        fit = (started_fit layout s b.workers b.values ws taken).fit

        accepted_is : start_result layout b ≡ start_accepted layout b.workers b.values s.frames ws
        accepted_is = fit_started layout s b.workers b.values ws parts_fit fit

        C : Carried layout pools (plain_start layout b) start_core
        C = carried layout pools (plain_begun layout b) start_core (start_follows layout pools b fit)

        timing_is : timing_of layout (state_of start_core) start_core.pool bytes l.clocks ≡ timing
        timing_is = ap (λ (c : Core). timed_over layout c (records_of bytes) (timing_at_start l.clocks)) (core-counted layout pools C)

        tape_with_lem : tape_with layout (state_of start_core) start_core.pool l.work bytes l.answers ≡ tape_on layout (state_of start_core) start_core.pool l.work bytes l.answers
        unfolding tape_on
        tape_with_lem = rw (fits_true (state_of start_core) (core-fits layout pools C))

        tape_is : tape_on layout (state_of start_core) start_core.pool l.work bytes l.answers ≡ tape_run
        tape_is = ap (λ (x : StartResult). tape_on layout x.state x.pool l.work bytes l.answers) (sym accepted_is)

        module _ (u : unfit_tape bytes l.answers ≡ false) (room : whole_nodes layout ws ≤ length l.work) where
          runs_is : o ≡ report_started layout (start_accepted layout b.workers b.values s.frames ws) bytes l
          runs_is = with_is ∙ ap by_start accepted_is ∙ rw (u, le-ltb (length l.work) (whole_nodes layout ws) room)

          done_is : o ≡ report_done tape_run timing l.report
          done_is = runs_is ∙ ap₂ (λ (x : TapeResult) (t : Timing). report_done x t l.report) (tape_with_lem ∙ tape_is) timing_is

          tape-accepted : tape_run.result ≡ 0
          tape-accepted =
              ap (λ (x : TapeResult). x.result) (sym tape_is ∙ tape_done_lem layout pools C bytes l.work l.answers u (le-leb (whole_nodes layout ws) (length l.work) room))

  -- ---- the cases

  -- the tape has run
  pub record Ran (b : Start) (bytes : List ℕ) (l : Lent) : Type 0 where
    pub taken : (start_result layout b).result ≡ 0
    pub fit : Fit layout b.workers b.values b.parts.frames b.pool
    pub long : length l.clocks ≡ 2 * length b.parts.frames
    pub tape-accepted : (tape_run b bytes l).result ≡ 0
    pub done : report_result layout b bytes l ≡ report_done (tape_run b bytes l) (timing b bytes l) l.report

  -- refused by 99, or by 1, 2, 21, 3, 4 or 5; or the tape has run
  pub data Case (b : Start) (bytes : List ℕ) (l : Lent) : Type 0 where
    other_lengths : fits_report b.parts l ≡ false → report_result layout b bytes l ≡ record { state = b.parts; pool = b.pool; lent = l; result = 99 } → Case b bytes l
    refused : (k : ℕ) → 0 < k → k ≤ 21 → report_result layout b bytes l ≡ report_refused b.parts b.pool l k → Case b bytes l
    ran : Ran b bytes l → Case b bytes l

  pub ran_at : (b : Start) (bytes : List ℕ) (l : Lent) → fits_report b.parts l ≡ true → (start_result layout b).result ≡ 0 → unfit_tape bytes l.answers ≡ false → whole_nodes layout b.pool ≤ length l.work → Ran b bytes l
  ran_at b bytes l f e u k = record { taken = e; fit = fit b bytes l f e; long = clocks_long b bytes l f; tape-accepted = tape-accepted b bytes l f e u k; done = done_is b bytes l f e u k }

  pub report_case : (b : Start) (bytes : List ℕ) (l : Lent) → Case b bytes l
  report_case b bytes l = elim (decided (fits_report b.parts l)) [
    | inl f ↦ elim (ℕ_discrete (start_result layout b).result 0) [
      | yes e ↦ elim (decided (unfit_tape bytes l.answers)) [
        | inl u ↦ refused 4 (omega arith) (omega arith) (tape_refused_lem b bytes l f e u)
        | inr u ↦ elim (decided (ltb (length l.work) (whole_nodes layout b.pool))) [
          | inl k ↦ refused 5 (omega arith) (omega arith) (work_refused b bytes l f e u (ltb-true (length l.work) (whole_nodes layout b.pool) k))
          | inr k ↦ ran (ran_at b bytes l f e u (ltb-false (length l.work) (whole_nodes layout b.pool) k))
        ]
      ]
      | no n ↦ refused (start_result layout b).result (omega (arith, n)) (start_few b bytes l f) (start_refused_lem b bytes l f n)
    ]
    | inr f ↦ other_lengths f (lengths_is b bytes l f)
  ]

  -- 0, or 22 if the span is 0
  pub ran_result : (b : Start) (bytes : List ℕ) (l : Lent) → Ran b bytes l
      → (((report_result layout b bytes l).result ≡ 0) × ((timing b bytes l).span ≢ 0)) ⊎ (((report_result layout b bytes l).result ≡ 22) × ((timing b bytes l).span ≡ 0))
  ran_result b bytes l R =
      let t = timing b bytes l in
      let e = ap (λ (x : ReportResult). x.result) R.done in
      elim (ℕ_discrete t.span 0) [
        | yes z ↦ inr (e ∙ rw (eq-eqb t.span 0 z), z)
        | no z ↦ inl (e ∙ rw (ne_eqb t.span 0 z), z)
      ]
