-- The plain machine fed records, from a start: it does as the model does, fed the records that are steps.
use Rattle.model.specs.Record.{Decoded}
use Rattle.std.specs.Prelude.{◌≡◌, refl, ℕ, length, None, Some}
use Rattle.std.proofs.Common.{sym, ap, ◌∙◌, inl, inr, arith}
use mathlib.Core.List.Memᴰ.{head as here}
use mathlib.Core.List.Memᴰ.{tail as there}
use mathlib.Core.List.{Memᴰ as In}
use mathlib.Core.List.{List, [], ◌∷◌, ◌++◌, map, tail-eq_of_cons-eq}
use Rattle.std.proofs.lemmas.Bool.{lt-leb}
use Rattle.model.specs.declared.Step.{Step}
use Rattle.model.specs.Machine.{Machine}
use Rattle.model.specs.Steps.{turn_of, refusal, step, turn_answer, answer}
use Rattle.model.specs.Run.{run, answers, trace, turn_entry, Returned, AllAccepted, accepted_then}
use Rattle.model.specs.Views.{run_views}
use Rattle.model.proofs.Theory.RunSteps.{accepted_at, accepted_or_refused}
use Rattle.semantics.specs.Calls.{PoolAt, says_accepted, Exchange, trace_from, records_in, answers_in}
use Rattle.semantics.specs.Demands.{Plain, from_start, answers_by, machine_by, all_accepted}
use Rattle.semantics.proofs.Theory.Words.{refusal_low, turn_same}
pub use Rattle.semantics.specs.ReportDemands.{valids}

pub trace-same : (P : Plain) (es : List Exchange) (ks : List PoolAt) → length ks ≡ length (records_in es) → answers_in es ≡ answers_by from_start P (records_in es) ks
    → trace_from P.machine es ≡ trace P.machine (valids (records_in es))
trace-same P [] ks l e = refl
trace-same P (t ∷ es) [] l e = absurd (omega arith)
trace-same P ((None, a) ∷ es) (k ∷ ks) l e = trace-same P es ks (omega arith) (tail-eq_of_cons-eq e)
trace-same P ((Some st, a) ∷ es) (k ∷ ks) l e = elim (accepted_or_refused P.machine st) [
  | inl A ↦
      let M = P.machine in
      let t = turn_same M (turn_of st) A.passes in
      let w : a ≡ turn_answer M (turn_of st) = ap head_pair e ∙ A.answered in
      let r = trace-same (from_start.after P (Some st) k) es ks (omega arith) (tail-eq_of_cons-eq e) in
      rw (w, t.0, t.1) (ap (λ z. turn_entry M (turn_of st) ++ z) (r ∙ ap (λ z. trace z (valids (records_in es))) A.after) ∙ sym (A.traced (valids (records_in es))))
  | inr A ↦
      let M = P.machine in
      let w : a ≡ (refusal M st, 0) = ap head_pair e ∙ A.answered in
      let r = trace-same (from_start.after P (Some st) k) es ks (omega arith) (tail-eq_of_cons-eq e) in
      rw (w, lt-leb 100 (refusal M st) (refusal_low M st)) (r ∙ ap (λ z. trace z (valids (records_in es))) A.after ∙ sym (A.traced (valids (records_in es))))
]
  where
    head_pair : List (ℕ × ℕ) → ℕ × ℕ
    head_pair [] = (0, 0)
    head_pair (x ∷ xs) = x

pub machine_plain : (ds : List Decoded) (ks : List PoolAt) (P : Plain) → length ks ≡ length ds → (machine_by from_start P ds ks).machine ≡ run P.machine (valids ds)
machine_plain [] ks P l = refl
machine_plain (d ∷ ds) [] P l = absurd (omega arith)
machine_plain (Some st ∷ ds) (k ∷ ks) P l = machine_plain ds ks (from_start.after P (Some st) k) (omega arith)
machine_plain (None ∷ ds) (k ∷ ks) P l = machine_plain ds ks P (omega arith)

-- R-5: and so do the views beside it
pub views_plain : (ds : List Decoded) (ks : List PoolAt) (P : Plain) → length ks ≡ length ds → (machine_by from_start P ds ks).views ≡ run_views P.machine P.views (valids ds)
views_plain [] ks P l = refl
views_plain (d ∷ ds) [] P l = absurd (omega arith)
views_plain (Some st ∷ ds) (k ∷ ks) P l = views_plain ds ks (from_start.after P (Some st) k) (omega arith)
views_plain (None ∷ ds) (k ∷ ks) P l = views_plain ds ks P (omega arith)

-- a record that is no step is not answered with outcome 3
pub returned_plain : (ds : List Decoded) (ks : List PoolAt) (P : Plain) → length ks ≡ length ds → In (102, 3) (answers_by from_start P ds ks) → Returned P.machine (valids ds)
returned_plain [] ks P l i = i
returned_plain (d ∷ ds) [] P l i = absurd (omega arith)
returned_plain (Some st ∷ ds) (k ∷ ks) P l (here e) = here e
returned_plain (Some st ∷ ds) (k ∷ ks) P l (there i) = there (returned_plain ds ks (from_start.after P (Some st) k) (omega arith) i)
returned_plain (None ∷ ds) (k ∷ ks) P l (here e) = absurd (omega (arith, ap (λ (w : ℕ × ℕ). w.0) e))
returned_plain (None ∷ ds) (k ∷ ks) P l (there i) = returned_plain ds ks P (omega arith) i

-- and the other way round
pub plain_returned : (ds : List Decoded) (ks : List PoolAt) (P : Plain) → length ks ≡ length ds → Returned P.machine (valids ds) → In (102, 3) (answers_by from_start P ds ks)
plain_returned [] ks P l i = i
plain_returned (d ∷ ds) [] P l i = absurd (omega arith)
plain_returned (Some st ∷ ds) (k ∷ ks) P l (here e) = here e
plain_returned (Some st ∷ ds) (k ∷ ks) P l (there i) = there (plain_returned ds ks (from_start.after P (Some st) k) (omega arith) i)
plain_returned (None ∷ ds) (k ∷ ks) P l i = there (plain_returned ds ks P (omega arith) i)

-- ---- steps only

pub valids_valid : (ss : List Step) → valids (map Some ss) ≡ ss
valids_valid [] = refl
valids_valid (s ∷ ss) = ap (λ z. s ∷ z) (valids_valid ss)

pub answers_plain : (ss : List Step) (ks : List PoolAt) (P : Plain) → length ks ≡ length (map Some ss) → answers_by from_start P (map Some ss) ks ≡ answers P.machine ss
answers_plain [] ks P l = refl
answers_plain (s ∷ ss) [] P l = absurd (omega arith)
answers_plain (s ∷ ss) (k ∷ ks) P l = ap (λ z. answer P.machine s ∷ z) (answers_plain ss ks (from_start.after P (Some s) k) (omega arith))

-- no step refused: every answer accepts
pub all-accepted : (M : Machine) (ss : List Step) → AllAccepted M ss → all_accepted (answers M ss)
all-accepted M [] a = tt
all-accepted M (s ∷ ss) (accepted_then e a) =
    let A = accepted_at M s (unfold refusal in e) in
    (ap says_accepted A.answered ∙ (turn_same M (turn_of s) A.passes).0, all-accepted (step M s) ss a)
