-- R-7: along a run from a start the clock words hold the clocks beside the plain machine, so that work and span are its pair.
use Rattle.model.specs.Record.{Decoded}
use Rattle.std.specs.Prelude.{◌≡◌, length, get_or, replicate, None, Some}
use Rattle.std.proofs.Math.Path.{refl, ap}
use Rattle.std.proofs.Common.{sym, ◌∙◌, subst, arith}
use Rattle.std.proofs.Math.Logic.{inl, inr}
use mathlib.Core.List.Memᴰ.{eq_of_singleton as In-one}
use mathlib.Core.List.{List, [], ◌∷◌}
use Prim.Native.Nat.{ℕ, ◌*◌}
use Rattle.std.proofs.lemmas.List.{length-replicate}
use Rattle.words.specs.Below.{below-replicate}
use Rattle.frames.proofs.Theory.Start.{length_init}
use Rattle.model.specs.declared.Step.{Step}
use Rattle.model.specs.Machine.{Machine}
use Rattle.model.specs.Steps.{answer}
use Rattle.model.specs.Run.{run}
use Rattle.model.specs.Clocks.{Clock, Clocks, clocks_at_start, clocks_after, run_clocks, pair_of}
use Rattle.model.proofs.Theory.FrameTree.{FrameTree}
use Rattle.model.proofs.Theory.DequeShape.{DequeInvariant}
use Rattle.model.proofs.Theory.ClockNames.{clocks_start}
use Rattle.model.proofs.Theory.AtSync.{at_sync-start}
use Rattle.semantics.specs.Answers.{answer_words}
use Rattle.semantics.specs.Core.{Core, step_on}
use Rattle.semantics.specs.Entries.{whole_nodes, records_of}
use Rattle.semantics.specs.Timing.{Timing, timing_at_start, timed_by, worker_of, timed_record, timed_over, timed_with}
use Rattle.semantics.specs.Calls.{Start}
use Rattle.semantics.specs.Demands.{Plain, plain_begun}
use Rattle.semantics.proofs.Theory.Relation.{Trees, Relates}
use Rattle.semantics.proofs.Theory.Simulation.{SameAnswers, Simulates}
use Rattle.semantics.proofs.Theory.Starts.{Fit}
use Rattle.semantics.proofs.Theory.StartRelates.{first_core}
use Rattle.semantics.proofs.Theory.ValidRecords.{valids}
use Rattle.semantics.proofs.Theory.StartedRuns.{Follows, stepped, follows_step, start_follows}
use Rattle.semantics.proofs.Theory.Timed.{Timed}
use Rattle.semantics.proofs.Theory.TimedSteps.{timed_step}
use Rattle.semantics.proofs.Theory.TimedWords.{core_after}
use Rattle.soundness.specs.Layout.{Layout}
use Rattle.semantics.proofs.Theory.Pools.{PoolLaws}

module _ (layout : Layout) where
  -- ---- one step of the engine is one step of the plain machine: so are the clocks

  -- the free nodes that a write answers move no clock
  words_same : (M : Machine) (c : Core) (st : Step) (t : Timing) → SameAnswers layout M c st → timed_by c (worker_of st) (answer_words (step_on layout c st).answer) t ≡ timed_by c (worker_of st) (answer M st) t
  unfolding timed_with
  words_same M c st t A = elim A.unless_written [
    | inl e ↦ ap (λ (a : ℕ × ℕ). timed_by c (worker_of st) a t) e
    | inr x ↦ rw (sym A.first ∙ ap (λ (a : ℕ × ℕ). a.0) x.5, x.5)
  ]

  pub simulates_timed : {P : Trees} {M : Machine} {c : Core} (r : Relates layout P M c) (st : Step) (S : Simulates layout r st) → FrameTree M → DequeInvariant M → (C : Clocks) (t : Timing) → Timed layout r C t
      → Timed layout S.related (clocks_after M C st) (timed_by c (worker_of st) (answer_words (step_on layout c st).answer) t)
  simulates_timed {M = M} {c = c} r st S tree dq C t H =
      subst (Timed layout S.related (clocks_after M C st)) (sym (words_same M c st t S.answers)) (timed_step layout r st S.related S.follows.places tree dq C t H)

module _ (layout : Layout) (pools : PoolLaws layout) where
  -- ---- the records of a tape

  -- P and C have followed the core c, whose clock words are t's
  pub record TimedBeside (P : Plain) (C : Clocks) (c : Core) (t : Timing) : Type 0 where
    pub follows : Follows layout pools P c
    pub timed : Timed layout follows.related C t

  step_beside : (P : Plain) (C : Clocks) (c : Core) (t : Timing) (st : Step) → TimedBeside P C c t → TimedBeside (stepped P st) (clocks_after P.machine C st) (step_on layout c st).core (timed_record layout c (Some st) t)
  step_beside P C c t st B =
      let F = B.follows in
      let N = follows_step layout pools P c st F in
      record {
        follows = N.next;
        timed = subst (λ (a : ℕ × ℕ). Timed layout N.next.related (clocks_after P.machine C st) (timed_by c (worker_of st) a t)) (sym N.alike)
            (timed_step layout F.related st N.next.related N.places F.inv.tree F.inv.deques C t B.timed);
      }

module _ (layout : Layout) where
  -- a record that is no step moves no clock
  no_step : (c : Core) (t : Timing) → timed_record layout c None t ≡ t
  unfolding timed_with
  no_step c t = refl

module _ (layout : Layout) (pools : PoolLaws layout) where
  -- the plain machine fed the records, with its clocks
  pub record RunBeside (P : Plain) (C : Clocks) (c : Core) (t : Timing) (ds : List Decoded) : Type 0 where
    pub plain : Plain
    pub machine : plain.machine ≡ run P.machine (valids ds)
    pub beside : TimedBeside layout pools plain (run_clocks P.machine C (valids ds)) (core_after layout c ds) (timed_over layout c ds t)

  pub runs_beside : (ds : List Decoded) (P : Plain) (C : Clocks) (c : Core) (t : Timing) → TimedBeside layout pools P C c t → RunBeside P C c t ds
  unfolding timed_over
  runs_beside [] P C c t B = record { plain = P; machine = refl; beside = B }
  runs_beside (Some st ∷ ds) P C c t B =
      let R = runs_beside ds (stepped P st) (clocks_after P.machine C st) (step_on layout c st).core (timed_record layout c (Some st) t) (step_beside layout pools P C c t st B) in
      record { plain = R.plain; machine = R.machine; beside = R.beside }
  runs_beside (None ∷ ds) P C c t B =
      let R = runs_beside ds P C c (timed_record layout c None t) (subst (TimedBeside layout pools P C c) (sym (no_step layout c t)) B) in
      record { plain = R.plain; machine = R.machine; beside = R.beside }

-- ---- from a start

zero_word : (n i : ℕ) → get_or {A = ℕ} (replicate n 0) i 0 ≡ 0
zero_word n i = omega (arith, below-replicate 1 n (omega arith) i)

module _ (layout : Layout) (pools : PoolLaws layout) where
  module _ (b : Start) (F : Fit layout b.workers b.values b.parts.frames b.pool) (clocks : List ℕ) (long : length clocks ≡ 2 * length b.parts.frames) where
    abbrev c₀ : Core
    c₀ = first_core layout b.workers b.values b.parts.frames b.pool

    begins_beside : TimedBeside layout pools (plain_begun layout b) clocks_at_start c₀ (timing_at_start clocks)
    begins_beside = record {
      follows = start_follows layout pools b F;
      timed = record {
        ordered = clocks_start b.workers b.values (whole_nodes layout b.pool) (length b.parts.frames);
        at_sync = at_sync-start b.workers b.values (whole_nodes layout b.pool) (length b.parts.frames);
        held = record {
          own = λ k m. zero_word (length clocks) _ ∙ ap (λ (u : Clock). u.clock) (sym (In-one m));
          children = λ k m. zero_word (length clocks) _ ∙ ap (λ (u : Clock). u.latest) (sym (In-one m));
          long = omega (arith, length-replicate {A = ℕ} (length clocks) 0, long, length_init b.parts.frames);
          work = refl;
          span = refl;
        };
        quiet = λ f m. refl;
      };
    }

    pub started_beside : (ds : List Decoded) → RunBeside layout pools (plain_begun layout b) clocks_at_start c₀ (timing_at_start clocks) ds
    started_beside ds = runs_beside layout pools ds (plain_begun layout b) clocks_at_start c₀ (timing_at_start clocks) begins_beside

    -- "Work is the sum of costs, span is Main's clock at its return."
    pub tape_pair : (tape : List ℕ)
        → let t = timed_over layout c₀ (records_of tape) (timing_at_start clocks) in let p = pair_of b.workers b.values (whole_nodes layout b.pool) (length b.parts.frames) (valids (records_of tape)) in (t.work ≡ p.0) × (t.span ≡ p.1)
    tape_pair tape = let H = (started_beside (records_of tape)).beside.timed.held in (H.work, H.span)
