-- R-7, for the engine's code of a report: the start passes the check; what bounds the clock words, work and span; records that move no deque; a tape's
-- records in two parts.
use Rattle.model.specs.Record.{Decoded}
use Rattle.std.specs.Prelude.{◌≡◌, ◌⊎◌, Bool, true, false, cond, ◌&&◌, get_or, set, replicate, leb, None, Ok, Some}
use Rattle.std.proofs.Math.Path.{refl, subst}
use Rattle.std.proofs.Common.{sym, ap, ◌∙◌}
use Rattle.std.proofs.Math.Logic.{inl, inr}
use mathlib.Core.List.{List, [], ◌∷◌, ◌++◌}
use Prim.Native.Nat.{ℕ, zero, suc, ◌+◌, ◌*◌, ◌≤◌, ◌<◌, max}
use native.Mathlib.Omega.{arith}
use Rattle.std.proofs.Math.ListN.{length}
use Rattle.std.proofs.lemmas.List.{length-replicate}
use Rattle.std.proofs.Math.Dec.{eqb}
use borrow.Author.Tests.{le-leb, lt-leb, ne_eqb}
use Rattle.words.specs.Basics.{none}
use Rattle.words.specs.Tests.{decided, true≢false}
use Rattle.words.specs.Below.{below_set, below-replicate}
use Rattle.frames.specs.Widths.{deque_words}
use Rattle.frames.specs.declared.Frame.{Frame}
use Rattle.frames.specs.Frames.{frame_at}
use Rattle.frames.specs.Deques.{bottom}
use Rattle.soundness.specs.Numbers.{number_count}
use Rattle.model.specs.declared.Step.TheVariants.{Spawn, Return, Steal, Sync, Read, Write, Fold}
use Rattle.semantics.specs.declared.Refusal.{Refusal}
use Rattle.semantics.specs.Answers.{answer_words}
use Rattle.semantics.specs.Core.{Core, StepResult, judged, read_on, write_on, fold_on, step_on, tests_of}
use Rattle.semantics.specs.Entries.{zeros, numbers_of, totals_of, core_of, checked_state, chain_free, whole_nodes, StartResult, start_accepted, start_with, record_on, RecordsResult, records_result, put_answer, run_on}
use Rattle.semantics.specs.Calls.{Start}
use Rattle.semantics.specs.Demands.{plain_start, plain_begun}
use Rattle.semantics.specs.Promises.{Fits}
use Rattle.semantics.specs.Ranges.{Kept}
use Rattle.semantics.specs.declared.Rise.{Rise}
use Rattle.semantics.specs.Timing.{own_clock, child_clock, latest, ticked, passed, heard, begun, waits_for_one, rise, Timing, timing_at_start, costing, ended, rise_from, timed_by, worker_in, timed_record, timed_over, timed_with}
use Rattle.semantics.proofs.Theory.Refusals.{number_range}
use Rattle.semantics.proofs.Theory.Fitting.{totals_long}
use Rattle.semantics.proofs.Theory.Starts.{Accepts, with_cases}
use Rattle.semantics.proofs.Theory.StartRelates.{first_core}
use Rattle.semantics.proofs.Theory.SoundSteps.{Carried, is_sound_lem}
use Rattle.semantics.proofs.Theory.Runs.{core-fits, check_long}
use Rattle.semantics.proofs.Theory.StartedRuns.{carried, start_follows}
use Rattle.semantics.proofs.Theory.Kept.{kept_start}
use Rattle.soundness.specs.Layout.{Layout}
use Rattle.semantics.proofs.Theory.Pools.{PoolLaws}

module _ (layout : Layout) (pools : PoolLaws layout) where
  -- ---- the state and pool of an accepted start pass the check

  module _ (workers : ℕ) (vs : List ℕ) (fs : List Frame) (ws : List ℕ) (taken : (start_with layout workers vs fs ws).result ≡ 0) where
    abbrev b : Start
    b = record { parts = zeros fs; workers = workers; values = vs; pool = ws }

    zeros_fit : Fits (zeros fs)
    zeros_fit = record { numbers = length-replicate {A = ℕ} number_count 0; deques = length-replicate {A = ℕ} deque_words 0 }

    pub started_accepts : Accepts layout (zeros fs) workers vs ws (start_with layout workers vs fs ws)
    started_accepts = elim (with_cases layout (zeros fs) workers vs ws zeros_fit) [
      | inl R ↦ absurd (omega (arith, taken, ap (λ (o : StartResult). o.result) R.result, R.positive))
      | inr A ↦ A
    ]

    first_carried : Carried layout pools (plain_start layout b) (first_core layout workers vs fs ws)
    first_carried = carried layout pools (plain_begun layout b) (first_core layout workers vs fs ws) (start_follows layout pools b started_accepts.fit)

    -- what holds of the accepted start
    as_accepted : (T : StartResult → Type 0) → T (start_accepted layout workers vs fs ws) → T (start_with layout workers vs fs ws)
    as_accepted T x = subst T (sym started_accepts.result) x

    pub started_checked : (work : List ℕ) → whole_nodes layout ws ≤ length work
        → let o = start_with layout workers vs fs ws in checked_state layout o.state o.pool work ≡ Ok (chain_free layout o.state o.pool)
    started_checked work long =
        as_accepted (λ o. checked_state layout o.state o.pool work ≡ Ok (chain_free layout o.state o.pool))
        (check_long layout pools first_carried work (le-leb (whole_nodes layout ws) (length work) long) ∙ ap Ok (sym (is_sound_lem layout pools first_carried).1))

    pub started_fits : Fits (start_with layout workers vs fs ws).state
    started_fits = as_accepted (λ o. Fits o.state) (core-fits layout pools first_carried)

    pub started_nodes : (numbers_of (start_with layout workers vs fs ws).state).nodes ≡ whole_nodes layout ws
    started_nodes = as_accepted (λ o. (numbers_of o.state).nodes ≡ whole_nodes layout ws) refl

    pub started_kept : let o = start_with layout workers vs fs ws in Kept layout (core_of o.state o.pool (chain_free layout o.state o.pool))
    started_kept =
        let o = start_with layout workers vs fs ws in
        let work : List ℕ = replicate (whole_nodes layout ws) 0 in
        let long : whole_nodes layout ws ≤ length work = omega (arith, length-replicate {A = ℕ} (whole_nodes layout ws) 0) in
        kept_start layout (numbers_of o.state) (totals_of o.state) o.state.deques o.state.frames o.pool work (chain_free layout o.state o.pool) (totals_long o.state started_fits) started_fits.deques (sym (started_checked work long))

-- ---- bounds

-- all clock words, the work and the span
pub record AtMost (k : ℕ) (t : Timing) : Type 0 where
  pub clocks : (i : ℕ) → get_or t.clocks i 0 ≤ k
  pub work : t.work ≤ k
  pub span : t.span ≤ k

pub at_most_start : (ks : List ℕ) → AtMost 0 (timing_at_start ks)
at_most_start ks = record { clocks = λ i. omega (arith, below-replicate 1 (length ks) (omega arith) i); work = omega arith; span = omega arith }

module _ (layout : Layout) (pools : PoolLaws layout) where
  -- a word stored
  set_most : (k : ℕ) (ks : List ℕ) (i v : ℕ) → ((j : ℕ) → get_or ks j 0 ≤ k) → v ≤ k → (j : ℕ) → get_or (set ks i v) j 0 ≤ k
  set_most k ks i v h b j = omega (arith, below_set (suc k) ks i v (λ j. omega (arith, h j)) (omega arith) j)

  pub rise_most : (k : ℕ) (fs : List Frame) (ks : List ℕ) → ((i : ℕ) → get_or ks i 0 ≤ k) → (d p t : ℕ) → t ≤ k → (rise d fs ks p t).clock ≤ k
  unfolding rise
  rise_most k fs ks h zero p t b = b
  rise_most k fs ks h (suc d) p t b =
      let q : ℕ = (frame_at fs p).parent in
      elim (decided (waits_for_one (frame_at fs q) && eqb (frame_at fs q).returning 1)) [
        | inl e ↦ rw e (rise_most k fs ks h d q (max (latest ks q) t) (let x = h (2 * q) in let y = h (suc (2 * q)) in omega arith))
        | inr e ↦ rw e b
      ]

  module _ (k : ℕ) (t : Timing) (h : AtMost k t) where
    -- the clock words are at most k, so at most one more
    more : (i : ℕ) → get_or t.clocks i 0 ≤ suc k
    more i = omega (arith, h.clocks i)

    as_it_was : AtMost (suc k) t
    as_it_was = record { clocks = more; work = omega (arith, h.work); span = omega (arith, h.span) }

    costing_most : (ks : List ℕ) → ((i : ℕ) → get_or ks i 0 ≤ suc k) → AtMost (suc k) (costing t ks)
    costing_most ks b = record { clocks = b; work = omega (arith, h.work); span = omega (arith, h.span) }

    ticked_most : (p i : ℕ) → get_or (ticked t.clocks p) i 0 ≤ suc k
    ticked_most p = set_most (suc k) t.clocks (2 * p) (suc (own_clock t.clocks p)) more (omega (arith, h.clocks (2 * p)))

    begun_most : (p g i : ℕ) → get_or (begun t.clocks p g) i 0 ≤ suc k
    begun_most p g =
        let ks = ticked t.clocks p in
        let v = suc (own_clock t.clocks p) in
        set_most (suc k) (set ks (2 * g) v) (suc (2 * g)) 0 (set_most (suc k) ks (2 * g) v (ticked_most p) (omega (arith, h.clocks (2 * p)))) (omega arith)

    heard_most : (q e : ℕ) → e ≤ k → (i : ℕ) → get_or (heard t.clocks q e) i 0 ≤ k
    heard_most q e b = set_most k t.clocks (suc (2 * q)) (max (child_clock t.clocks q) e) h.clocks (let x = h.clocks (suc (2 * q)) in omega arith)

    passed_most : (ks : List ℕ) (p : ℕ) → ((i : ℕ) → get_or ks i 0 ≤ k) → (i : ℕ) → get_or (passed ks p) i 0 ≤ suc k
    passed_most ks p b =
        set_most (suc k) ks (2 * p) (suc (latest ks p)) (λ i. omega (arith, b i)) (let x = b (2 * p) in let y = b (suc (2 * p)) in omega arith)

    ended_most : (r : Rise) → r.clock ≤ k → AtMost (suc k) (ended t r)
    ended_most r b =
        let ks = heard t.clocks r.place r.clock in
        elim (decided (eqb r.place none)) [
          | inl e ↦ rw e (record { clocks = more; work = omega (arith, h.work); span = omega (arith, b) })
          | inr e ↦ rw e (elim (decided r.passes) [
            | inl p ↦ rw p (record { clocks = passed_most ks r.place (heard_most r.place r.clock b); work = omega (arith, h.work); span = omega (arith, h.span) })
            | inr p ↦ rw p (record { clocks = λ i. omega (arith, heard_most r.place r.clock b i); work = omega (arith, h.work); span = omega (arith, h.span) })
          ])
        ]

    -- the latest of a frame's two words
    latest_most : (p : ℕ) → latest t.clocks p ≤ k
    latest_most p = let x = h.clocks (2 * p) in let y = h.clocks (suc (2 * p)) in omega arith

    timed_by_most : (c : Core) (w : ℕ) (a : ℕ × ℕ) → AtMost (suc k) (timed_by c w a t)
    unfolding timed_with
    timed_by_most c w a =
        let p : ℕ = bottom c.deques w in
        let g : ℕ = c.head.numbers.free_place in
        elim (decided (leb 105 a.0)) [
          | inl e ↦ rw e (costing_most (ticked t.clocks p) (ticked_most p))
          | inr e ↦ rw e (elim (decided (eqb a.0 101)) [
            | inl f ↦ rw f (costing_most (begun t.clocks p g) (begun_most p g))
            | inr f ↦ rw f (elim (decided (eqb a.0 102)) [
              | inl r ↦ rw r (elim (decided (eqb a.1 4)) [
                | inl o ↦ rw o as_it_was
                | inr o ↦ rw o (ended_most (rise_from c t.clocks w) (rise_most k c.frames t.clocks h.clocks (frame_at c.frames p).depth p (latest t.clocks p) (latest_most p)))
              ])
              | inr r ↦ rw r (elim (decided (eqb a.0 104)) [
                | inl s ↦ rw s (elim (decided (eqb a.1 0)) [
                  | inl o ↦ rw o (costing_most (passed t.clocks p) (passed_most t.clocks p h.clocks))
                  | inr o ↦ rw o (costing_most t.clocks more)
                ])
                | inr s ↦ rw s as_it_was
              ])
            ])
          ])
        ]

    -- a record adds at most one
    pub timed_most : (c : Core) (d : Decoded) → AtMost (suc k) (timed_record layout c d t)
    timed_most c d = timed_by_most c (worker_in d) (answer_words (record_on layout c d).answer)

  pub timed_over_most : (c : Core) (ds : List Decoded) (k : ℕ) (t : Timing) → AtMost k t → AtMost (k + length ds) (timed_over layout c ds t)
  unfolding timed_over
  timed_over_most c [] k t h = subst (λ n. AtMost n t) (let z : k ≡ k + 0 = omega arith in z) h
  timed_over_most c (d ∷ ds) k t h =
      let t' = timed_record layout c d t in
      subst (λ n. AtMost n (timed_over layout (record_on layout c d).core ds t')) (let z : suc k + length ds ≡ k + suc (length ds) = omega arith in z) (timed_over_most (record_on layout c d).core ds (suc k) t' (timed_most k t h c d))

-- ---- a record that is no step, a read, a write and a fold move no deque, and tick if they are accepted

abbrev pub moves_no_deque : Decoded → Bool
moves_no_deque None = true
moves_no_deque (Some (Spawn w)) = false
moves_no_deque (Some (Return w)) = false
moves_no_deque (Some (Steal w v)) = false
moves_no_deque (Some (Sync w)) = false
moves_no_deque (Some (Read w x)) = true
moves_no_deque (Some (Write w x v)) = true
moves_no_deque (Some (Fold w r v)) = true

-- the core of a result has these deques, and its answer refuses, or is one of the kinds 5 to 7
record Ticks (c : Core) (d : StepResult) : Type 0 where
  deques : d.core.deques ≡ c.deques
  first : ((answer_words d.answer).0 < 100) ⊎ (105 ≤ (answer_words d.answer).0)

judged_ticks : (ts : List (Bool × Refusal)) (c : Core) (d : StepResult) → Ticks c d → Ticks c (judged ts c d)
judged_ticks [] c d h = h
judged_ticks (t ∷ ts) c d h = elim (decided t.0) [
  | inl e ↦ rw e (record { deques = refl; first = inl (omega (arith, (number_range t.1).1)) })
  | inr e ↦ rw e (judged_ticks ts c d h)
]

module _ (layout : Layout) where
  record_ticks : (c : Core) (d : Decoded) → moves_no_deque d ≡ true → Ticks c (record_on layout c d)
  unfolding step_on read_on write_on fold_on
  record_ticks c None e = record { deques = refl; first = inl (omega arith) }
  record_ticks c (Some (Spawn w)) e = absurd (true≢false (sym e))
  record_ticks c (Some (Return w)) e = absurd (true≢false (sym e))
  record_ticks c (Some (Steal w v)) e = absurd (true≢false (sym e))
  record_ticks c (Some (Sync w)) e = absurd (true≢false (sym e))
  record_ticks c (Some (Read w x)) e = judged_ticks (tests_of layout c (Read w x)) c (read_on layout c w x) (record { deques = refl; first = inr (omega arith) })
  record_ticks c (Some (Write w x v)) e = judged_ticks (tests_of layout c (Write w x v)) c (write_on layout c w x v) (record { deques = refl; first = inr (omega arith) })
  record_ticks c (Some (Fold w r v)) e = judged_ticks (tests_of layout c (Fold w r v)) c (fold_on c w r v) (record { deques = refl; first = inr (omega arith) })

  pub deques_kept : (c : Core) (d : Decoded) → moves_no_deque d ≡ true → (record_on layout c d).core.deques ≡ c.deques
  deques_kept c d e = (record_ticks c d e).deques

module _ (layout : Layout) (pools : PoolLaws layout) where
  -- worker w's step has these answer words
  by_words : (c : Core) (w : ℕ) (a : ℕ × ℕ) (t : Timing) → (a.0 < 100) ⊎ (105 ≤ a.0) → timed_by c w a t ≡ cond (leb 100 a.0) (costing t (ticked t.clocks (bottom c.deques w))) t
  unfolding timed_with
  by_words c w a t (inl b) =
      rw (lt-leb 100 a.0 b, lt-leb 105 a.0 (omega arith), ne_eqb a.0 101 (λ z. omega arith), ne_eqb a.0 102 (λ z. omega arith), ne_eqb a.0 104 (λ z. omega arith))
  by_words c w a t (inr b) = rw (le-leb 100 a.0 (omega arith), le-leb 105 a.0 b)

  pub timed_ticks : (c : Core) (d : Decoded) (t : Timing) → moves_no_deque d ≡ true
      → timed_record layout c d t ≡ cond (leb 100 (answer_words (record_on layout c d).answer).0) (costing t (ticked t.clocks (bottom c.deques (worker_in d)))) t
  timed_ticks c d t e = by_words c (worker_in d) (answer_words (record_on layout c d).answer) t (record_ticks layout c d e).first

module _ (layout : Layout) where
  -- ---- records in two parts

  -- the core after them
  abbrev pub core_after : Core → List Decoded → Core
  core_after c [] = c
  core_after c (d ∷ ds) = core_after (record_on layout c d).core ds

  pub run-core : (r : RecordsResult) (k : ℕ) (ds : List Decoded) → (run_on layout r k ds).core ≡ core_after r.core ds
  unfolding run_on
  run-core r k [] = refl
  run-core r k (d ∷ ds) = run-core (records_result (record_on layout r.core d).core (put_answer r.answers k (record_on layout r.core d).answer)) (k + 2) ds

  pub timed_append : (c : Core) (xs ys : List Decoded) (t : Timing) → timed_over layout c (xs ++ ys) t ≡ timed_over layout (core_after c xs) ys (timed_over layout c xs t)
  unfolding timed_over
  timed_append c [] ys t = refl
  timed_append c (d ∷ xs) ys t = timed_append (record_on layout c d).core xs ys (timed_record layout c d t)
