-- R-7: "Two runs with the same frames' steps give the same pair.": so do two reports, and the one-worker run's.
use Rattle.std.specs.Prelude.{◌≡◌, ◌≢◌, List, [], ◌∷◌, ℕ, ◌/◌, ◌%◌, length}
use Rattle.std.proofs.Common.{sym, ap, ap₂, ◌∙◌, inl}
use Rattle.model.specs.Run.{steps_of, one_worker_steps}
use Rattle.model.specs.Demand3.{one_worker_of}
use Rattle.model.specs.Clocks.{pair_of}
use Rattle.model.proofs.Theory.WorkAndSpan.{same_pair, one_worker_pair}
use Rattle.semantics.specs.Entries.{State, StartResult, whole_nodes, records_of}
use Rattle.semantics.specs.Report.{Lent}
use Rattle.semantics.specs.Calls.{Start, start_result}
use Rattle.semantics.specs.Demands.{trace_of, alone_start}
use Rattle.semantics.specs.ReportDemands.{report_result, valids, pair_after, report_calls, SamePair, AloneFits, AloneReport}
use Rattle.semantics.proofs.Theory.Starts.{alone_fit, fit_started}
use Rattle.semantics.proofs.Theory.ValidRecords.{valids_valid}
use Rattle.semantics.proofs.Theory.ReportCases.{timing, parts_fit, Ran, ran_at}
use Rattle.semantics.proofs.Theory.Reports.{ran_of, ss, trace_is, pair, has_returned, made, span_there}
use Rattle.soundness.specs.Layout.{Layout}
use Rattle.semantics.proofs.Theory.Pools.{PoolLaws}

-- the words of a pair
abbrev words_of : ℕ × ℕ → List ℕ
words_of p = p.0 ∷ p.1 ∷ p.0 / p.1 ∷ p.0 % p.1 ∷ []

module _ (layout : Layout) (pools : PoolLaws layout) where
  pair_words : (b : Start) (bytes : List ℕ) (l : Lent) (R : Ran layout pools b bytes l) → (timing layout pools b bytes l).span ≢ 0 → (report_result layout b bytes l).lent.report ≡ words_of (pair_after layout b bytes)
  pair_words b bytes l R n = let p = pair layout pools b bytes l R in (made layout pools b bytes l R n).1 ∙ ap₂ (λ (x y : ℕ). words_of (x, y)) p.0 p.1

  pub same_report : (b : Start) (bytes : List ℕ) (l : Lent) (b' : Start) (bytes' : List ℕ) (l' : Lent) → SamePair layout b bytes l b' bytes' l'
  same_report b bytes l b' bytes' l' e e' h =
      let R = ran_of layout pools b bytes l (inl e) in
      let R' = ran_of layout pools b' bytes' l' (inl e') in
      let n = span_there layout pools b bytes l R e in
      let n' = span_there layout pools b' bytes' l' R' e' in
      let same : pair_after layout b bytes ≡ pair_after layout b' bytes' =
      same_pair b.workers b'.workers b.values b'.values (whole_nodes layout b.pool) (whole_nodes layout b'.pool) (length b.parts.frames) (length b'.parts.frames) (ss layout pools b bytes l R) (ss layout pools b' bytes' l' R')
      (has_returned layout pools b bytes l R n) (has_returned layout pools b' bytes' l' R' n') (λ p. ap (steps_of p) (sym (trace_is layout pools b bytes l R)) ∙ h p ∙ ap (steps_of p) (trace_is layout pools b' bytes' l' R')) in
      pair_words b bytes l R n ∙ ap words_of same ∙ sym (pair_words b' bytes' l' R' n')

  -- ---- the one-worker run

  module _ (b : Start) (bytes : List ℕ) (l : Lent) (parts : State) (ws bytes₁ : List ℕ) (l₁ : Lent) (e : (report_result layout b bytes l).result ≡ 0) (A : AloneFits layout b bytes l parts ws bytes₁ l₁) where
    abbrev b₁ : Start
    b₁ = alone_start b parts ws

    abbrev N : ℕ
    N = whole_nodes layout b.pool

    abbrev places : ℕ
    places = length b.parts.frames

    R : Ran layout pools b bytes l
    R = ran_of layout pools b bytes l (inl e)

    n : (timing layout pools b bytes l).span ≢ 0
    n = span_there layout pools b bytes l R e

    taken : (start_result layout b₁).result ≡ 0
    taken = ap (λ (o : StartResult). o.result) (fit_started layout parts 1 b.values ws (parts_fit layout pools b₁ bytes₁ l₁ A.fits) (alone_fit layout layout parts.frames ws A.same_places A.as_many R.fit))

    R₁ : Ran layout pools b₁ bytes₁ l₁
    R₁ = ran_at layout pools b₁ bytes₁ l₁ A.fits taken A.fit_tape A.long

    -- its steps are Main's child-first list
    steps_are : valids (records_of bytes₁) ≡ one_worker_of b.workers b.values N places (ss layout pools b bytes l R)
    steps_are = ap valids A.records ∙ valids_valid (one_worker_steps (trace_of layout b (report_calls bytes l))) ∙ ap one_worker_steps (trace_is layout pools b bytes l R)

    same : pair_after layout b₁ bytes₁ ≡ pair_after layout b bytes
    same =
        ap (pair_of 1 b.values (whole_nodes layout ws) (length parts.frames)) steps_are
        ∙ ap₂ (λ (x y : ℕ). pair_of 1 b.values x y (one_worker_of b.workers b.values N places (ss layout pools b bytes l R))) A.as_many A.same_places
        ∙ one_worker_pair b.workers b.values N places (ss layout pools b bytes l R) (has_returned layout pools b bytes l R n)

    n₁ : (timing layout pools b₁ bytes₁ l₁).span ≢ 0
    n₁ z = n ((pair layout pools b bytes l R).1 ∙ ap (λ (p : ℕ × ℕ). p.1) (sym same) ∙ sym (pair layout pools b₁ bytes₁ l₁ R₁).1 ∙ z)

    pub alone_report : AloneReport layout b bytes l parts ws bytes₁ l₁
    alone_report = record { made = (made layout pools b₁ bytes₁ l₁ R₁ n₁).0; same = pair_words b₁ bytes₁ l₁ R₁ n₁ ∙ ap words_of same ∙ sym (pair_words b bytes l R n) }
