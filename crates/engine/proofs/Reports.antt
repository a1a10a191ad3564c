-- R-7: a report's ways out, over plain variables.
use Rattle.std.specs.Prelude.{Result, Ok, Err, ⊤, is_err, IsOk}
use mathlib.Core.Path.{◌≡◌, refl, sym, ap, subst, ◌∙◌}
use mathlib.Core.Logic.{inl, inr}
use mathlib.Core.Bool.{Bool, true, false, cond}
use mathlib.Core.List.{List, [], ◌∷◌, ◌++◌}
use Prim.Native.Nat.{ℕ, ◌*◌, ◌/◌, ◌≤◌}
use lib.Dec.{eqb, ltb}
use lib.ListN.{length, get_or, replicate}
use borrow.Author.Tests.{eq-eqb, ne_eqb}
use Rattle.soundness.specs.Soundness.{Checked}
use Rattle.words.specs.Tests.{decided, ge_of, true≢false}
use Rattle.frames.specs.declared.Frame.{Frame}
use Rattle.semantics.specs.declared.Refusal.{Refusal}
use Rattle.semantics.specs.declared.Refusal.TheVariants.{Tape, Work, Span}
use Rattle.semantics.specs.Answers.{refusal_number}
use Rattle.semantics.specs.Entries.{State, zeros, whole_nodes, chain_free, core_of, checked_state, StartResult, start_with, TapeResult, tape_with, records_result, records_of, run_on, unfit_tape}
use Rattle.semantics.specs.Promises.{parts, lent, Fits, IsStart, IsTape, IsReport}
use Rattle.semantics.specs.Ranges.{Kept}
use Rattle.semantics.specs.Report.{ReportResult, report_words, report_refused, report_done, report_started, timing_of, report_with}
use Rattle.semantics.specs.Timing.{Timing, timing_at_start, timed_over}
use Rattle.semantics.proofs.Theory.TimedWords.{started_checked, at_most_start}
use Rattle.semantics.proofs.Theory.TwoPools.{two_pools}
use Rattle.timing.specs.Turns.{timing}
use Rattle.engine.specs.Promises.{IsCheck, IsRun, result_number, tested, start_tests, report_tests}
use Rattle.engine.proofs.Numbered.{some_refused, number_of}
use Rattle.engine.proofs.Starts.{start_refused_lem, start_taken, started_table}
use Rattle.engine.proofs.Taping.{found_sound, fit_answers, tape_done_lem}
use Rattle.soundness.specs.Layout.{two_words}

-- ---- the refusals before anything changes

refused_before : (ts us : List (Bool × Refusal)) → is_err (tested ts) ≡ true → tested (ts ++ us) ≡ tested ts
refused_before [] us n = absurd (true≢false (sym n))
refused_before (t ∷ ts) us n = elim (decided t.0) [ inl e ↦ rw e refl | inr e ↦ rw e (refused_before ts us (rw e at n)) ]

passed_before : (ts us : List (Bool × Refusal)) → is_err (tested ts) ≡ false → tested (ts ++ us) ≡ tested us
passed_before [] us z = refl
passed_before (t ∷ ts) us z = elim (decided t.0) [ inl e ↦ absurd (true≢false (rw e at z)) | inr e ↦ rw e (passed_before ts us (rw e at z)) ]

-- ---- over parts that have their lengths

module _ (workers : ℕ) (vs ns ds : List ℕ) (fs : List Frame) (ws ks tape rs cs qs : List ℕ) (x : Result ⊤ Refusal) (ex : x ≡ tested (report_tests workers vs (length fs) ws ks tape rs)) where
  abbrev start_answer : Result ⊤ Refusal
  start_answer = tested (start_tests workers (length vs) (length fs) (whole_nodes two_words ws))

  abbrev tape_tests : List (Bool × Refusal)
  tape_tests = (unfit_tape tape rs, Tape) ∷ (ltb (length ks) (whole_nodes two_words ws), Work) ∷ []

  -- the start would be accepted: what is left of the tests
  module _ (z : is_err start_answer ≡ false) where
    taken : (start_with two_words workers vs fs ws).result ≡ 0
    taken = start_taken workers vs fs ws (whole_nodes two_words ws) refl start_answer refl z

    rest_is : x ≡ tested tape_tests
    rest_is = ex ∙ passed_before (start_tests workers (length vs) (length fs) (whole_nodes two_words ws)) tape_tests z

  module _ (n : is_err x ≡ true) (ns' ds' : List ℕ) (fs' : List Frame) (cleared : parts ns' ds' fs' ≡ zeros fs) where
    by_number : (r : ℕ) → result_number x ≡ r → report_refused (parts ns ds fs) ws (lent ks rs cs qs) r ≡ report_with two_words (parts ns ds fs) workers vs ws tape (lent ks rs cs qs)
        → IsReport (report_with two_words (parts ns ds fs) workers vs ws tape (lent ks rs cs qs)) ns' ds' fs' ws ks rs cs qs (result_number x)
    by_number r e o = record { result = e ∙ ap (λ (q : ReportResult). q.result) o; state = cleared ∙ ap (λ (q : ReportResult). q.state) o; pool = ap (λ (q : ReportResult). q.pool) o; lent = ap (λ (q : ReportResult). q.lent) o }

    start_refuses : is_err start_answer ≡ true → IsReport (report_with two_words (parts ns ds fs) workers vs ws tape (lent ks rs cs qs)) ns' ds' fs' ws ks rs cs qs (result_number x)
    unfolding report_with
    start_refuses m =
        let S : IsStart (start_with two_words workers vs fs ws) ns' ds' fs' ws (result_number start_answer) = start_refused_lem workers vs fs ws (whole_nodes two_words ws) refl start_answer refl m ns' ds' fs' cleared in
        let e : x ≡ start_answer = ex ∙ refused_before (start_tests workers (length vs) (length fs) (whole_nodes two_words ws)) tape_tests m in
        by_number (start_with two_words workers vs fs ws).result (ap result_number e ∙ S.result) (rw (ne_eqb (start_with two_words workers vs fs ws).result 0 (λ z. some_refused start_answer m (S.result ∙ z))))

    tape_refuses : is_err start_answer ≡ false → IsReport (report_with two_words (parts ns ds fs) workers vs ws tape (lent ks rs cs qs)) ns' ds' fs' ws ks rs cs qs (result_number x)
    unfolding report_with
    tape_refuses z =
        let t : eqb (start_with two_words workers vs fs ws).result 0 ≡ true = eq-eqb (start_with two_words workers vs fs ws).result 0 (taken z) in
        let e : x ≡ tested tape_tests = rest_is z in
        elim (decided (unfit_tape tape rs)) [
          | inl u ↦ by_number (refusal_number Tape) (let q : tested tape_tests ≡ Err Tape = rw u refl in ap result_number (e ∙ q)) (rw (t, u))
          | inr u ↦ elim (decided (ltb (length ks) (whole_nodes two_words ws))) [
            | inl v ↦ by_number (refusal_number Work) (let q : tested tape_tests ≡ Err Work = rw (u, v) refl in ap result_number (e ∙ q)) (rw (t, u, v))
            | inr v ↦ absurd (true≢false (sym n ∙ (let q : tested tape_tests ≡ Ok tt = rw (u, v) refl in ap is_err (e ∙ q))))
          ]
        ]

    pub report_refused_lem : IsReport (report_with two_words (parts ns ds fs) workers vs ws tape (lent ks rs cs qs)) ns' ds' fs' ws ks rs cs qs (result_number x)
    report_refused_lem = elim (decided (is_err start_answer)) [ inl m ↦ start_refuses m | inr z ↦ tape_refuses z ]

  -- nothing is refused
  module _ (z : is_err x ≡ false) where
    all_pass : (is_err start_answer ≡ false) × (unfit_tape tape rs ≡ false) × (ltb (length ks) (whole_nodes two_words ws) ≡ false)
    all_pass = elim (decided (is_err start_answer)) [
      | inr y ↦ elim (decided (unfit_tape tape rs)) [
        | inl u ↦ absurd (true≢false (sym (let q : tested tape_tests ≡ Err Tape = rw u refl in ap is_err (rest_is y ∙ q)) ∙ z))
        | inr u ↦ elim (decided (ltb (length ks) (whole_nodes two_words ws))) [
          | inl v ↦ absurd (true≢false (sym (let q : tested tape_tests ≡ Err Work = rw (u, v) refl in ap is_err (rest_is y ∙ q)) ∙ z))
          | inr v ↦ (y, u, v)
        ]
      ]
      | inl m ↦ absurd (true≢false (sym m ∙ sym (ap is_err (ex ∙ refused_before (start_tests workers (length vs) (length fs) (whole_nodes two_words ws)) tape_tests m)) ∙ z))
    ]

    module _ (ns₁ ds₁ : List ℕ) (fs₁ : List Frame) (ws₁ : List ℕ) (y : Result ⊤ Refusal) (S : IsStart (start_with two_words workers vs fs ws) ns₁ ds₁ fs₁ ws₁ (result_number y)) where
      -- the start refuses nothing
      pub start_passes : IsOk y
      start_passes = elim (decided (is_err y)) [ inl e ↦ absurd (some_refused y e (S.result ∙ taken all_pass.0)) | inr e ↦ ok_by y e ]
        where
          ok_by : (r : Result ⊤ Refusal) → is_err r ≡ false → IsOk r
          ok_by (Ok _) f = refl
          ok_by (Err r) f = absurd (true≢false f)

      pub same_table : length fs₁ ≡ length fs
      same_table = ap (λ (s : State). length s.frames) S.state ∙ started_table workers vs fs ws (whole_nodes two_words ws) refl start_answer refl all_pass.0

      pub started_sound : checked_state two_words (parts ns₁ ds₁ fs₁) ws₁ ks ≡ Ok (chain_free two_words (parts ns₁ ds₁ fs₁) ws₁)
      started_sound =
          let o : StartResult = start_with two_words workers vs fs ws in
          subst (λ (s : State). checked_state two_words s ws₁ ks ≡ Ok (chain_free two_words s ws₁)) (sym S.state)
          (subst (λ (ps : List ℕ). checked_state two_words o.state ps ks ≡ Ok (chain_free two_words o.state ps)) (sym S.pool) (started_checked two_words two_pools workers vs fs ws (taken all_pass.0) ks (ge_of all_pass.2)))

      pub tape_fits : unfit_tape tape rs ≡ false
      tape_fits = all_pass.1

      -- the tape runs from what the start left
      from_start_lem : report_done (tape_with two_words (parts ns₁ ds₁ fs₁) ws₁ ks tape rs) (timing_of two_words (parts ns₁ ds₁ fs₁) ws₁ tape cs) qs ≡ report_with two_words (parts ns ds fs) workers vs ws tape (lent ks rs cs qs)
      unfolding report_with
      from_start_lem =
          let o : StartResult = start_with two_words workers vs fs ws in
          let p : report_started two_words o tape (lent ks rs cs qs) ≡ report_with two_words (parts ns ds fs) workers vs ws tape (lent ks rs cs qs) = rw (eq-eqb o.result 0 (taken all_pass.0), all_pass.1, all_pass.2) in
          ap (λ (s : State). report_done (tape_with two_words s ws₁ ks tape rs) (timing_of two_words s ws₁ tape cs) qs) S.state
          ∙ ap (λ (ps : List ℕ). report_done (tape_with two_words o.state ps ks tape rs) (timing_of two_words o.state ps tape cs) qs) S.pool
          ∙ p

      pub report_started_lem : (ns' ds' : List ℕ) (fs' : List Frame) (ws' ks' rs' cs' qs' : List ℕ) (r : ℕ)
          → IsReport (report_done (tape_with two_words (parts ns₁ ds₁ fs₁) ws₁ ks tape rs) (timing_of two_words (parts ns₁ ds₁ fs₁) ws₁ tape cs) qs) ns' ds' fs' ws' ks' rs' cs' qs' r
          → IsReport (report_with two_words (parts ns ds fs) workers vs ws tape (lent ks rs cs qs)) ns' ds' fs' ws' ks' rs' cs' qs' r
      report_started_lem ns' ds' fs' ws' ks' rs' cs' qs' r R = subst (λ (o : ReportResult). IsReport o ns' ds' fs' ws' ks' rs' cs' qs' r) from_start_lem R

-- ---- the tape and the report, after the start

-- the nodes that a check counted
abbrev counted : Checked → ℕ
counted (Ok k) = k
counted (Err e) = 0

done_by_lem : (o : TapeResult) (t : Timing) (words ns ds : List ℕ) (fs : List Frame) (ws ks rs cs qs : List ℕ) (x : Result ⊤ Refusal) (r' work span : ℕ) → IsTape o ns ds fs ws ks rs r' → timing cs work span ≡ t
    → (qs ≡ cond (eqb span 0) words (report_words (timing words work span))) × (x ≡ cond (eqb span 0) (Err Span) (Ok tt)) → IsReport (report_done o t words) ns ds fs ws ks rs cs qs (result_number x)
done_by_lem o t words ns ds fs ws ks rs cs qs x r' work span T e p =
    let q : qs ≡ cond (eqb t.span 0) words (report_words t) = p.0 ∙ ap (λ (y : Timing). cond (eqb y.span 0) words (report_words y)) e in
    let n : result_number x ≡ cond (eqb span 0) (refusal_number Span) 0 = ap result_number p.1 ∙ number_of (eqb span 0) Span (Ok tt) in
    record {
      result = n ∙ ap (λ (y : Timing). cond (eqb y.span 0) (refusal_number Span) 0) e;
      state = T.state;
      pool = T.pool;
      lent = λ i. lent (T.work i) (T.answers i) (e i).clocks (q i);
    }

module _ (ns ds : List ℕ) (fs : List Frame) (ws ks tape rs cs words : List ℕ) (F : Fits (parts ns ds fs)) (sound : checked_state two_words (parts ns ds fs) ws ks ≡ Ok (chain_free two_words (parts ns ds fs) ws)) (fit : unfit_tape tape rs ≡ false)
    (found : Checked) (ks' : List ℕ) (check : IsCheck two_words (parts ns ds fs) ws ks ks' found) where
  -- the check of a state that is sound counts
  pub check_passes : IsOk found
  check_passes = subst (λ (k : Checked). IsOk k) (sym (check.1 ∙ sound)) refl

  module _ (free : ℕ) (ef : found ≡ Ok free) where
    free_is : free ≡ chain_free two_words (parts ns ds fs) ws
    free_is = ap counted (sym ef ∙ check.1 ∙ sound)

    pub report_kept : Kept two_words (core_of (parts ns ds fs) ws free)
    report_kept = found_sound ns ds fs ws ks ks' found free F check ef

    pub report_room : 2 * (length tape / 8) ≤ length rs
    report_room = fit_answers tape rs (unfit_tape tape rs) refl fit

    module _ (cs₁ : List ℕ) (ec : cs₁ ≡ replicate (length cs) 0) where
      pub clocks_zero : (j : ℕ) → get_or cs₁ j 0 ≤ 0
      clocks_zero j = subst (λ (x : List ℕ). get_or x j 0 ≤ 0) (sym ec) ((at_most_start cs).clocks j)

      pub report_done_lem : (work span : ℕ) (ns' ds' : List ℕ) (fs' : List Frame) (ws' rs' cs' qs : List ℕ) (x : Result ⊤ Refusal)
          → IsRun (run_on two_words (records_result (core_of (parts ns ds fs) ws free) rs) 0 (records_of tape)) ns' ds' fs' ws' rs'
          → timing cs' work span ≡ timed_over two_words (core_of (parts ns ds fs) ws free) (records_of tape) (timing cs₁ 0 0)
          → (qs ≡ cond (eqb span 0) words (report_words (timing words work span))) × (x ≡ cond (eqb span 0) (Err Span) (Ok tt))
          → IsReport (report_done (tape_with two_words (parts ns ds fs) ws ks tape rs) (timing_of two_words (parts ns ds fs) ws tape cs) words) ns' ds' fs' ws' ks' rs' cs' qs (result_number x)
      report_done_lem work span ns' ds' fs' ws' rs' cs' qs x R t p =
          let T : IsTape (tape_with two_words (parts ns ds fs) ws ks tape rs) ns' ds' fs' ws' ks' rs' 0 = tape_done_lem ns ds fs ws ks tape rs (unfit_tape tape rs) refl fit found ks' check free ns' ds' fs' ws' rs' ef R in
          let e : timing cs' work span ≡ timing_of two_words (parts ns ds fs) ws tape cs =
          t
          ∙ ap (λ (x : List ℕ). timed_over two_words (core_of (parts ns ds fs) ws free) (records_of tape) (timing x 0 0)) ec
          ∙ ap (λ (m : ℕ). timed_over two_words (core_of (parts ns ds fs) ws m) (records_of tape) (timing_at_start cs)) free_is in
          done_by_lem (tape_with two_words (parts ns ds fs) ws ks tape rs) (timing_of two_words (parts ns ds fs) ws tape cs) words ns' ds' fs' ws' ks' rs' cs' qs x 0 work span T e p
