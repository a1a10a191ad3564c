-- R-7: the demands of ReportDemands.
use Rattle.model.specs.Record.{Decoded}
use Rattle.std.specs.Prelude.{◌≡◌, refl, ◌≢◌, true, false, List, [], ◌∷◌, ℕ, zero, suc, ◌+◌, ◌/◌, ◌%◌, ◌≤◌, ◌<◌, length, get_or, ltb}
use Rattle.std.proofs.Common.{sym, ap, ap₂, ◌∙◌, subst, inl, inr, mod-lt, div-add-mod', div-le_self, arith, eq-eqb, ne_eqb, ltb-true, ltb-false}
use mathlib.Core.List.Memᴰ.{head as here}
use mathlib.Core.List.{Memᴰ as In}
use Rattle.std.proofs.Math.Nat.{mod-le}
use Rattle.words.specs.Tests.{decided}
use Rattle.model.specs.declared.Step.{Step}
use Rattle.model.specs.Machine.{Frame, live, is_empty}
use Rattle.model.specs.Run.{run, trace, Returned}
use Rattle.model.proofs.Theory.Effects.{live-start}
use Rattle.model.proofs.Theory.FrameTree.{tree-start}
use Rattle.model.proofs.Theory.MainEnds.{ends_returned}
use Rattle.model.proofs.Theory.WorkAndSpan.{span_at_most_work}
use Rattle.semantics.specs.Entries.{whole_nodes, records_of, unfit_tape}
use Rattle.semantics.specs.Timing.{Timing, timing_at_start}
use Rattle.semantics.specs.Report.{Lent, ReportResult, fits_report, report_words}
use Rattle.semantics.specs.Calls.{Start, start_result, tape, Exchange, records_in, PoolAt}
use Rattle.semantics.specs.Demands.{from_start, plain_start, plain_begun, run_from, trace_of, MainReturned}
use Rattle.semantics.specs.ReportDemands.{report_result, TapeRan, RefusedReport, ReportChecks, SameRun, valids, pair_after, report_calls, PairWords, ReportIs, NoOverflow}
use Rattle.semantics.proofs.Theory.TapeWords.{length_records, records_from_lem}
use Rattle.semantics.proofs.Theory.ValidRecords.{trace-same, returned_plain, plain_returned}
use Rattle.semantics.proofs.Theory.Runs.{Fed}
use Rattle.semantics.proofs.Theory.StartedRuns.{Follows, started_fed}
use Rattle.semantics.proofs.Theory.TimedRuns.{started_beside, tape_pair}
use Rattle.semantics.proofs.Theory.TimedWords.{AtMost, at_most_start, timed_over_most}
use Rattle.semantics.proofs.Theory.ReportCases.{start_core, timing, tape_run, lengths_is, start_refused_lem, tape_refused_lem, work_refused, Ran, Case, other_lengths, refused, ran, ran_at, report_case, ran_result}
use Rattle.soundness.specs.Layout.{Layout}
use Rattle.semantics.proofs.Theory.Pools.{PoolLaws}

abbrev result_of : ReportResult → ℕ
result_of o = o.result

module _ (layout : Layout) (pools : PoolLaws layout) where
  -- ---- refused before anything changes

  ran_or : (b : Start) (bytes : List ℕ) (l : Lent) → Ran layout pools b bytes l → TapeRan layout b bytes l
  ran_or b bytes l R = elim (ran_result layout pools b bytes l R) [ inl x ↦ inl x.0 | inr x ↦ inr x.0 ]

  pub refused_report : (b : Start) (bytes : List ℕ) (l : Lent) → (report_result layout b bytes l).result ≢ 0 → (report_result layout b bytes l).result ≢ 22 → RefusedReport layout b bytes l
  refused_report b bytes l n m = by_case (report_case layout pools b bytes l)
    where
      by_case : Case layout pools b bytes l → RefusedReport layout b bytes l
      by_case (other_lengths f e) = record {
        parts = λ z. ap (λ (o : ReportResult). o.state) e;
        zero = λ z. absurd (z (ap result_of e));
        pool = ap (λ (o : ReportResult). o.pool) e;
        lent = ap (λ (o : ReportResult). o.lent) e;
      }
      by_case (refused k p q e) = record {
        parts = λ z. absurd (omega (arith, z, ap result_of e, q));
        zero = λ z. ap (λ (o : ReportResult). o.state) e;
        pool = ap (λ (o : ReportResult). o.pool) e;
        lent = ap (λ (o : ReportResult). o.lent) e;
      }
      by_case (ran R) = elim (ran_or b bytes l R) [ inl z ↦ absurd (n z) | inr z ↦ absurd (m z) ]

  pub report_checks : (b : Start) (bytes : List ℕ) (l : Lent) → ReportChecks layout b bytes l
  report_checks b bytes l = record {
    lengths = (fits_not (report_case layout pools b bytes l), λ f. ap result_of (lengths_is layout pools b bytes l f));
    start = λ f n. ap result_of (start_refused_lem layout pools b bytes l f n);
    tape = λ f e. (unfit f e, λ u. ap result_of (tape_refused_lem layout pools b bytes l f e u));
    work = λ f e u. (short f e u, λ k. ap result_of (work_refused layout pools b bytes l f e u k));
    ran = λ f e u k. ran_or b bytes l (ran_at layout pools b bytes l f e u k);
  }
    where
      -- the tape has run, so that the result is not k
      not_ran : (k : ℕ) → k ≢ 0 → k ≢ 22 → TapeRan layout b bytes l → (report_result layout b bytes l).result ≢ k
      not_ran k n m r z = elim r [ inl y ↦ n (sym z ∙ y) | inr y ↦ m (sym z ∙ y) ]

      fits_not : Case layout pools b bytes l → (report_result layout b bytes l).result ≡ 99 → fits_report b.parts l ≡ false
      fits_not (other_lengths f e) z = f
      fits_not (refused k p q e) z = absurd (omega (arith, z, ap result_of e, q))
      fits_not (ran R) z = absurd (not_ran 99 (λ y. omega (arith, y)) (λ y. omega (arith, y)) (ran_or b bytes l R) z)

      short : fits_report b.parts l ≡ true → (start_result layout b).result ≡ 0 → unfit_tape bytes l.answers ≡ false → (report_result layout b bytes l).result ≡ 5 → length l.work < whole_nodes layout b.pool
      short f e u z = elim (decided (ltb (length l.work) (whole_nodes layout b.pool))) [
        | inl k ↦ ltb-true (length l.work) (whole_nodes layout b.pool) k
        | inr k ↦ absurd (not_ran 5 (λ y. omega (arith, y)) (λ y. omega (arith, y)) (ran_or b bytes l (ran_at layout pools b bytes l f e u (ltb-false (length l.work) (whole_nodes layout b.pool) k))) z)
      ]

      unfit : fits_report b.parts l ≡ true → (start_result layout b).result ≡ 0 → (report_result layout b bytes l).result ≡ 4 → unfit_tape bytes l.answers ≡ true
      unfit f e z = elim (decided (unfit_tape bytes l.answers)) [
        | inl u ↦ u
        | inr u ↦ elim (decided (ltb (length l.work) (whole_nodes layout b.pool))) [
          | inl k ↦ absurd (omega (arith, z, ap result_of (work_refused layout pools b bytes l f e u (ltb-true (length l.work) (whole_nodes layout b.pool) k))))
          | inr k ↦ absurd (not_ran 4 (λ y. omega (arith, y)) (λ y. omega (arith, y)) (ran_or b bytes l (ran_at layout pools b bytes l f e u (ltb-false (length l.work) (whole_nodes layout b.pool) k))) z)
        ]
      ]

  -- ---- the run

  pub ran_of : (b : Start) (bytes : List ℕ) (l : Lent) → TapeRan layout b bytes l → Ran layout pools b bytes l
  ran_of b bytes l r = by_case (report_case layout pools b bytes l)
    where
      by_case : Case layout pools b bytes l → Ran layout pools b bytes l
      by_case (other_lengths f e) = absurd (elim r [ inl z ↦ omega (arith, z, ap result_of e) | inr z ↦ omega (arith, z, ap result_of e) ])
      by_case (refused k p q e) = absurd (elim r [ inl z ↦ omega (arith, z, ap result_of e, p) | inr z ↦ omega (arith, z, ap result_of e, q) ])
      by_case (ran R) = R

  pub same-run : (b : Start) (bytes : List ℕ) (l : Lent) → TapeRan layout b bytes l → SameRun layout b bytes l
  same-run b bytes l r =
      let R = ran_of b bytes l r in
      record {
        starts = R.taken;
        runs = R.tape-accepted;
        state = ap (λ (o : ReportResult). o.state) R.done;
        pool = ap (λ (o : ReportResult). o.pool) R.done;
        work = ap (λ (o : ReportResult). o.lent.work) R.done;
        answers = ap (λ (o : ReportResult). o.lent.answers) R.done;
      }

  -- ---- the plain machine fed the tape's records

  module _ (b : Start) (bytes : List ℕ) (l : Lent) (R : Ran layout pools b bytes l) where
    -- its steps
    abbrev pub ss : List Step
    ss = valids (records_of bytes)

    abbrev es : List Exchange
    es = (run_from layout b (report_calls bytes l)).past.exchanges

    abbrev ks : List PoolAt
    ks = (run_from layout b (report_calls bytes l)).past.pools

    fed : Fed from_start (Follows layout pools) (plain_begun layout b) (run_from layout b (report_calls bytes l)).now es ks
    fed = started_fed layout pools b (tape bytes l.work l.answers ∷ []) R.taken

    records_are : records_in es ≡ records_of bytes
    records_are = rw (eq-eqb (tape_run layout pools b bytes l).result 0 R.tape-accepted) (records_from_lem (tape_run layout pools b bytes l).answers 0 (records_of bytes))

    pub trace_is : trace_of layout b (report_calls bytes l) ≡ trace (plain_start layout b) ss
    trace_is = trace-same (plain_begun layout b) es ks fed.long fed.same ∙ ap (λ (ds : List Decoded). trace (plain_start layout b) (valids ds)) records_are

    returned_to : MainReturned layout b (report_calls bytes l) → Returned (plain_start layout b) ss
    returned_to m = subst (λ (ds : List Decoded). Returned (plain_start layout b) (valids ds)) records_are (returned_plain (records_in es) ks (plain_begun layout b) fed.long (subst (λ z. In (102, 3) z) fed.same m))

    returned_from : Returned (plain_start layout b) ss → MainReturned layout b (report_calls bytes l)
    returned_from m = subst (λ z. In (102, 3) z) (sym fed.same) (plain_returned (records_in es) ks (plain_begun layout b) fed.long (subst (λ (ds : List Decoded). Returned (plain_start layout b) (valids ds)) (sym records_are) m))

    abbrev t : Timing
    t = timing layout pools b bytes l

    pub pair : (t.work ≡ (pair_after layout b bytes).0) × (t.span ≡ (pair_after layout b bytes).1)
    pair = tape_pair layout pools b R.fit l.clocks R.long bytes

    -- the span is 0 while a frame lives
    over : t.span ≢ 0 → live (run (plain_start layout b) ss) ≡ []
    over n =
        let B = started_beside layout pools b R.fit l.clocks R.long (records_of bytes) in
        ap live (sym B.machine) ∙ none (live B.plain.machine) (λ f m. n (B.beside.timed.held.span ∙ B.beside.timed.quiet f m))
      where
        none : (L : List Frame) → ((f : Frame) → In f L → ⊥) → L ≡ []
        none [] h = refl
        none (f ∷ L) h = absurd (h f (here refl))

    pub has_returned : t.span ≢ 0 → Returned (plain_start layout b) ss
    has_returned n =
        let w = b.workers in
        let nodes = whole_nodes layout b.pool in
        let places = length b.parts.frames in
        ends_returned (plain_start layout b) ss (tree-start w b.values nodes places) (ap is_empty (live-start w b.values nodes places)) (over n)

    -- ---- the report's words

    pub made : t.span ≢ 0 → ((report_result layout b bytes l).result ≡ 0) × ((report_result layout b bytes l).lent.report ≡ report_words t)
    made n = (ap result_of R.done ∙ rw (ne_eqb t.span 0 n), ap (λ (o : ReportResult). o.lent.report) R.done ∙ rw (ne_eqb t.span 0 n))

    withheld : t.span ≡ 0 → ((report_result layout b bytes l).result ≡ 22) × ((report_result layout b bytes l).lent.report ≡ l.report)
    withheld z = (ap result_of R.done ∙ rw (eq-eqb t.span 0 z), ap (λ (o : ReportResult). o.lent.report) R.done ∙ rw (eq-eqb t.span 0 z))

    pub span_there : (report_result layout b bytes l).result ≡ 0 → t.span ≢ 0
    span_there e z = omega (arith, e, (withheld z).0)

    words_are : (report_result layout b bytes l).result ≡ 0 → PairWords (pair_after layout b bytes).0 (pair_after layout b bytes).1 (report_result layout b bytes l).lent.report
    words_are e =
        let n = span_there e in
        let some : 0 < t.span = omega (arith, n) in
        subst (λ (p : ℕ × ℕ). PairWords p.0 p.1 (report_result layout b bytes l).lent.report) (ap₂ (λ (x y : ℕ). (x, y)) pair.0 pair.1)
        (record {
          quotient = t.work / t.span;
          remainder = t.work % t.span;
          are = (made n).1;
          exact = sym (div-add-mod' t.work t.span);
          small = mod-lt t.work some;
          at_most = omega (arith, pair.0, pair.1, span_at_most_work b.workers b.values (whole_nodes layout b.pool) (length b.parts.frames) ss (has_returned n));
        })

    is_report : ReportIs layout b bytes l
    is_report = record {
      made = (
        (λ e. (returned_from (has_returned (span_there e)), λ z. span_there e (pair.1 ∙ z))),
        λ m. (made (λ z. m.1 (sym pair.1 ∙ z))).0,
      );
      words = words_are;
      withheld = λ e. elim (ran_result layout pools b bytes l R) [ inl x ↦ absurd (omega (arith, e, x.0)) | inr x ↦ (withheld x.1).1 ];
    }

    -- ---- bounds

    bounded : AtMost (length bytes / 8) t
    bounded =
        subst (λ (k : ℕ). AtMost k t) (let z : 0 + length (records_of bytes) ≡ length (records_of bytes) = omega arith in z ∙ length_records (length bytes / 8) bytes 0)
        (timed_over_most layout pools (start_core layout pools b bytes l) (records_of bytes) 0 (timing_at_start l.clocks) (at_most_start l.clocks))

    in_bounds_lem : NoOverflow layout b bytes l
    in_bounds_lem = record {
      clocks = λ i. subst (λ (o : ReportResult). get_or o.lent.clocks i 0 ≤ length bytes / 8) (sym R.done) (bounded.clocks i);
      report = λ e i. subst (λ (words : List ℕ). get_or words i 0 ≤ length bytes / 8) (sym (made (span_there e)).1) (word i);
    }
      where
        word : (i : ℕ) → get_or (report_words t) i 0 ≤ length bytes / 8
        word zero = bounded.work
        word (suc zero) = bounded.span
        word (suc (suc zero)) = omega (arith, div-le_self t.work t.span, bounded.work)
        word (suc (suc (suc zero))) = omega (arith, mod-le t.work t.span, bounded.work)
        word (suc (suc (suc (suc i)))) = omega arith

  pub report_is : (b : Start) (bytes : List ℕ) (l : Lent) → TapeRan layout b bytes l → ReportIs layout b bytes l
  report_is b bytes l r = is_report b bytes l (ran_of b bytes l r)

  pub no_overflow : (b : Start) (bytes : List ℕ) (l : Lent) → TapeRan layout b bytes l → NoOverflow layout b bytes l
  no_overflow b bytes l r = in_bounds_lem b bytes l (ran_of b bytes l r)
