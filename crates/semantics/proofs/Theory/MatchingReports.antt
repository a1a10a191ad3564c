-- R-8: a report, after starts with as many nodes, in both layouts.
use Rattle.std.specs.Prelude.{◌≡◌, refl, ◌≢◌, true, cond, List, ℕ, ◌≤◌, eqb, ltb, length}
use Rattle.std.proofs.Common.{ap₂, ◌∙◌, subst, arith}
use Rattle.std.proofs.Math.Logic.{inl, inr}
use borrow.Author.Tests.{eqb-true, eqb-false}
use Rattle.words.specs.Tests.{decided}
use Rattle.soundness.specs.Layout.{four_words, two_words}
use Rattle.semantics.specs.Entries.{State, fits, whole_nodes, StartResult, start_with, TapeResult, unfit_tape}
use Rattle.semantics.specs.Timing.{Timing}
use Rattle.semantics.specs.Report.{Lent, fits_report, report_refused, report_words, report_done, timing_of, report_started, report_with, report_on}
use Rattle.semantics.specs.Matching.{SoundMatch, AsManyNodes, SameStart, SameTape, SameReport, ReportsMatch}
use Rattle.semantics.proofs.Theory.Fitting.{fits_true}
use Rattle.semantics.proofs.Theory.Lengths.{start_with_fits}
use Rattle.semantics.proofs.Theory.FourPools.{four_pools}
use Rattle.semantics.proofs.Theory.ReportCases.{start_low}
use Rattle.semantics.proofs.Theory.MatchingCalls.{tape_with_lem, same-timing, with_match}

-- what a tape left, with the same clocks
done_match : (o₂ o₄ : TapeResult) → SameTape o₂ o₄ → (t : Timing) (words : List ℕ) → SameReport (report_done o₂ t words) (report_done o₄ t words)
done_match o₂ o₄ T t words = record {
  result = refl;
  state = T.state;
  lent = ap₂ (λ (w a : List ℕ). record { work = w; answers = a; clocks = t.clocks; report = cond (eqb t.span 0) words (report_words t) }) T.work T.answers;
  after = λ z. T.after;
}

module _ (s : State) (workers : ℕ) (vs ws₂ ws₄ : List ℕ) (m : AsManyNodes ws₂ ws₄) (tape : List ℕ) (l : Lent) where
  -- refused, not with 22
  refused_match : (r : ℕ) → r ≢ 0 → r ≤ 21 → SameReport (report_refused s ws₂ l r) (report_refused s ws₄ l r)
  refused_match r a b = record { result = refl; state = refl; lent = refl; after = λ z. elim z [ inl e ↦ absurd (a e) | inr e ↦ absurd (omega (arith, b, e)) ] }

  -- a tape after starts that match
  started_match : (o₂ o₄ : StartResult) → o₂.state ≡ o₄.state → fits o₄.state ≡ true → SoundMatch o₂.state o₂.pool o₄.pool → SameReport (report_started two_words o₂ tape l) (report_started four_words o₄ tape l)
  started_match o₂ o₄ e f S =
      let S' : SoundMatch o₄.state o₂.pool o₄.pool = subst (λ (t : State). SoundMatch t o₂.pool o₄.pool) e S in
      let T = tape_with_lem o₄.state o₂.pool o₄.pool S' l.work tape l.answers f in
      rw (e, same-timing o₄.state o₂.pool o₄.pool S' tape l.clocks f) (done_match _ _ T (timing_of four_words o₄.state o₄.pool tape l.clocks) l.report)

  abbrev start₂ : StartResult
  start₂ = start_with two_words workers vs s.frames ws₂

  abbrev start₄ : StartResult
  start₄ = start_with four_words workers vs s.frames ws₄

  W : SameStart start₂ start₄
  W = with_match workers vs s ws₂ ws₄ m

  with_same : SameReport (report_with two_words s workers vs ws₂ tape l) (report_with four_words s workers vs ws₄ tape l)
  unfolding report_with
  with_same = rw W.result (elim (decided (eqb start₄.result 0)) [
    | inr e ↦ rw e (refused_match start₄.result (eqb-false start₄.result 0 e) (start_low four_words four_pools workers vs s.frames ws₄))
    | inl e ↦ rw e (elim (decided (unfit_tape tape l.answers)) [
      | inl t ↦ rw t (refused_match 4 (λ z. omega (arith, z)) (omega arith))
      | inr t ↦ rw (t, m) (elim (decided (ltb (length l.work) (whole_nodes four_words ws₄))) [
        | inl k ↦ rw k (refused_match 5 (λ z. omega (arith, z)) (omega arith))
        | inr k ↦ rw k (started_match start₂ start₄ W.state (fits_true start₄.state (start_with_fits four_words workers vs s.frames ws₄)) (W.after (W.result ∙ eqb-true start₄.result 0 e)))
      ])
    ])
  ])

pub reports_match : (parts : State) (workers : ℕ) (values ws₂ ws₄ tape : List ℕ) (l : Lent) → ReportsMatch parts workers values ws₂ ws₄ tape l
unfolding report_on
reports_match parts workers values ws₂ ws₄ tape l m = elim (decided (fits_report parts l)) [
  | inl f ↦ rw f (with_same parts workers values ws₂ ws₄ m tape l)
  | inr f ↦ rw f (record { result = refl; state = refl; lent = refl; after = λ z. elim z [ inl e ↦ absurd (omega (arith, e)) | inr e ↦ absurd (omega (arith, e)) ] })
]
