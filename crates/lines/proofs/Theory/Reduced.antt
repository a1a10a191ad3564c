-- R-5: "Once Main has returned, each total is the identity joined with the values folded into its reducer, in the order of Main's child-first list, as in the
-- one-worker run. Only then splitrun prints" the totals. Its test, of the answer words, is that a return of the run was answered with outcome 3, and
-- what it prints then are those totals.
use Rattle.model.specs.Record.{Decoded}
use Rattle.std.specs.Prelude.{◌≡◌, refl, true, List, [], ◌∷◌, ℕ, suc, ◌+◌, ◌*◌, ◌/◌, length, get_or, drop, replicate, eqb}
use Rattle.std.proofs.Common.{sym, ap, ◌∙◌, inl, inr, arith, add-one, eqb-true, eq-eqb}
use mathlib.Core.List.Memᴰ.{cases_cons as In-cons}
use mathlib.Core.List.Memᴰ.{head as here}
use mathlib.Core.List.Memᴰ.{not-nil as not-in-nil}
use mathlib.Core.List.Memᴰ.{tail as there}
use mathlib.Core.List.{Memᴰ as In}
use Rattle.std.proofs.lemmas.List.{length-replicate}
use Rattle.words.specs.Below.{Words, Bytes}
use Rattle.words.specs.Tests.{true≢false, both, decided}
use Rattle.model.specs.Views.{main_folds}
use Rattle.semantics.specs.Entries.{zeros, totals_of, whole_nodes, records_of}
use Rattle.semantics.specs.Calls.{Start, start_result, tape, after_start, tape_result, Call, call, exchanges_from, answers_in}
use Rattle.semantics.specs.Demands.{MainReturned, trace_of, total_words, Demand3}
use Rattle.semantics.proofs.Theory.RefusedCalls.{tape_past}
use Rattle.semantics.proofs.Theory.StartedRuns.{demand3}
use Rattle.semantics.proofs.Theory.TapeWords.{length_records}
use Rattle.lines.specs.Lines.{is_end, main_returned, lent_table}
use Rattle.lines.proofs.Theory.Returned.{returned_here, returned_turn, returned_end}
use Rattle.soundness.specs.Layout.{two_words}
use Rattle.semantics.proofs.Theory.TwoPools.{two_pools}

-- ---- splitrun's run: a start over parts of zeros with its 64 places, then one tape

abbrev pub run_start : (workers : ℕ) (values pool : List ℕ) → Start
run_start workers values pool = record { parts = zeros lent_table; workers = workers; values = values; pool = pool }

abbrev pub run_calls : (work records answers : List ℕ) → List Call
run_calls work records answers = call (tape records work answers) ∷ []

-- ---- answers in pairs

end_of : (a b : ℕ) → is_end a b ≡ true → ◌≡◌ {A = ℕ × ℕ} (102, 3) (a, b)
end_of a b e =
    let s = both (eqb a 102) (eqb b 3) e in
    λ i. (sym (eqb-true a 102 s.0) i, sym (eqb-true b 3 s.1) i)

is_end_lem : (a b : ℕ) → ◌≡◌ {A = ℕ × ℕ} (102, 3) (a, b) → is_end a b ≡ true
is_end_lem a b e = rw (eq-eqb a 102 (sym (ap (λ (p : ℕ × ℕ). p.0) e)), eq-eqb b 3 (sym (ap (λ (p : ℕ × ℕ). p.1) e)))

-- of the words from place k on, two for each record
pairs_say : (ds : List Decoded) (ws : List ℕ) (k : ℕ) → length ws ≡ k + 2 * length ds → main_returned (drop k ws) ≡ true → In (102, 3) (answers_in (exchanges_from ws k ds))
pairs_say [] ws k l e = absurd (true≢false (sym e ∙ returned_end ws k (omega arith)))
pairs_say (d ∷ ds) ws k l e = elim (decided (is_end (get_or ws k 0) (get_or ws (k + 1) 0))) [
  | inl t ↦ here (end_of (get_or ws k 0) (get_or ws (suc k) 0) (rw (← add-one k) t))
  | inr t ↦ there (pairs_say ds ws (k + 2) (omega arith) (returned_turn ws k (omega arith) t ∙ e))
]

say_pairs : (ds : List Decoded) (ws : List ℕ) (k : ℕ) → length ws ≡ k + 2 * length ds → In (102, 3) (answers_in (exchanges_from ws k ds)) → main_returned (drop k ws) ≡ true
say_pairs [] ws k l m = absurd (not-in-nil m)
say_pairs (d ∷ ds) ws k l m = elim (decided (is_end (get_or ws k 0) (get_or ws (k + 1) 0))) [
  | inl t ↦ returned_here ws k (omega arith) t
  | inr t ↦ elim (In-cons m) [
    | inl e ↦ absurd (true≢false (sym (is_end_lem (get_or ws k 0) (get_or ws (k + 1) 0) (rw (add-one k) e)) ∙ t))
    | inr i ↦ sym (returned_turn ws k (omega arith) t) ∙ say_pairs ds ws (k + 2) (omega arith) i
  ]
]

-- ---- the run

module _ (workers : ℕ) (values pool work records answers : List ℕ) (two : length answers ≡ 2 * (length records / 8))
    (started : (start_result two_words (run_start workers values pool)).result ≡ 0)
    (taken : (tape_result two_words (after_start two_words (run_start workers values pool)) records work answers).result ≡ 0) where
  words_said : length (tape_result two_words (after_start two_words (run_start workers values pool)) records work answers).answers ≡ 0 + 2 * length (records_of records)
  words_said = omega (arith, two, (tape_past two_words (after_start two_words (run_start workers values pool)) records work answers).same_length, length_records (length records / 8) records 0)

  -- "Main has returned once a return of the run was answered with outcome 3."
  pub returned_said : main_returned (tape_result two_words (after_start two_words (run_start workers values pool)) records work answers).answers ≡ true → MainReturned two_words (run_start workers values pool) (run_calls work records answers)
  returned_said e = rw taken (pairs_say (records_of records) _ 0 words_said e)

  pub said_returned : MainReturned two_words (run_start workers values pool) (run_calls work records answers) → main_returned (tape_result two_words (after_start two_words (run_start workers values pool)) records work answers).answers ≡ true
  said_returned m = say_pairs (records_of records) _ 0 words_said (rw taken at m)

  -- the totals that are printed then
  pub totals_printed : Words values → Words pool → Bytes records → main_returned (tape_result two_words (after_start two_words (run_start workers values pool)) records work answers).answers ≡ true
      → totals_of (tape_result two_words (after_start two_words (run_start workers values pool)) records work answers).state ≡ total_words (main_folds (trace_of two_words (run_start workers values pool) (run_calls work records answers)))
  totals_printed vs ps bs e =
      let works : ℕ → List ℕ = λ j. replicate (whole_nodes two_words pool) 0 in
      let D : Demand3 two_words (run_start workers values pool) (run_calls work records answers) (zeros lent_table) pool works =
      demand3 two_words two_pools (run_start workers values pool) (run_calls work records answers) (zeros lent_table) pool works started (vs, ps) (bs, tt) (returned_said e) refl refl refl (λ j. omega (arith, length-replicate {A = ℕ} (whole_nodes two_words pool) 0)) in
      D.totals refl
