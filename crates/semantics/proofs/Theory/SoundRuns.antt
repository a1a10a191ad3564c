-- Demand 2 for sound states and pools, however obtained: the calls follow the machine of the first state, its free nodes set to those
-- on the chain after each record.
use Rattle.semantics.specs.Answers.{Answer}
use Rattle.model.specs.Record.{Decoded}
use Rattle.std.specs.Prelude.{◌≡◌, Bool, true, cond, List, [], ◌∷◌, ◌++◌, ℕ, ◌-◌, ◌*◌, ◌≤◌, length, None, Some}
use Rattle.std.proofs.Math.Path.{refl, ap, subst}
use Rattle.std.proofs.Common.{sym, ◌∙◌, inl, inr, arith, eqb-true}
use Rattle.std.proofs.Math.ListN.{take, drop}
use Rattle.std.proofs.lemmas.Bool.{eqb-false}
use Rattle.words.specs.Tests.{decided}
use Rattle.model.specs.declared.Step.{Step}
use Rattle.model.specs.declared.Step.TheVariants.{Spawn, Return, Steal, Sync, Read, Write, Fold}
use Rattle.model.specs.Machine.{Machine, free_nodes}
use Rattle.model.specs.Steps.{step, answer}
use Rattle.model.specs.Views.{views_at_start}
use Rattle.semantics.specs.declared.Refusal.{Refusal}
use Rattle.semantics.specs.Answers.{answer_words}
use Rattle.semantics.specs.Core.{Core, StepResult, judged, spawn_on, return_on, steal_on, sync_on, read_on, write_on, fold_on, step_on, tests_of, done_by}
use Rattle.semantics.specs.Entries.{State, fits, numbers_of, totals_of, state_of, is_sound, record_on}
use Rattle.semantics.specs.Images.{LoadResult, saved_image, state_in, pool_with}
use Rattle.semantics.specs.Calls.{HostCall, StateAndPool, rest_in, pool_at, after_call, core_in, save_result, Call, begun, run_of}
use Rattle.semantics.specs.Demands.{Plain, with_free, is_written, from_sound, plain_of, SoundRun, StateWords, AllCallWords, written_image, ReadsBack}
use Rattle.semantics.proofs.Theory.Refusals.{number_range}
use Rattle.semantics.proofs.Theory.Returning.{return_answers}
use Rattle.semantics.proofs.Theory.SoundSteps.{Carried, is_sound_lem, sound_carried, rebased, roomed, simulated, step_carried, takes}
use Rattle.semantics.proofs.Theory.Elsewhere.{carried_elsewhere}
use Rattle.semantics.proofs.Theory.Fitting.{fits_true, true_fits, state_back, totals_long}
use Rattle.semantics.proofs.Theory.Runs.{Laws, KeptBy, core-fits, call_follows}
use Rattle.semantics.proofs.Theory.Images.{unfit, refused_calls, sound_numbers, sound_room, save_taken, accepted_save, LoadTaken, SaysCore, saved_says, load_takes, pool_with_lem, front_same, loaded_state, loaded_front, loaded_beyond}
use Rattle.semantics.proofs.Theory.WholeRuns.{kept_begun, kept_calls, fed_sound, answers_by_lem}
use Rattle.soundness.specs.Layout.{Layout}
use Rattle.semantics.proofs.Theory.Pools.{PoolLaws}

-- ---- a write's answer is the engine's own number of free nodes

abbrev OwnNumber : StepResult → Type 0
OwnNumber o = (answer_words o.answer).0 ≡ 106 → answer_words o.answer ≡ (106, o.core.head.free_count)

module _ (layout : Layout) (pools : PoolLaws layout) where
  judged_own : (ts : List (Bool × Refusal)) (c : Core) (d : StepResult) → OwnNumber d → OwnNumber (judged ts c d)
  judged_own [] c d o = o
  judged_own (t ∷ ts) c d o = elim (decided t.0) [ inl e ↦ rw e (λ h. absurd (omega (arith, h, (number_range t.1).1))) | inr e ↦ rw e (judged_own ts c d o) ]

  return_number : (c : Core) (w : ℕ) → (answer_words (return_on layout c w).answer).0 ≡ 102
  return_number c w = ap (λ (a : Answer). (answer_words a).0) (return_answers layout c w).1

  done_own : (c : Core) (st : Step) → OwnNumber (done_by layout c st)
  unfolding spawn_on steal_on sync_on read_on write_on fold_on
  done_own c (Spawn w) h = absurd (omega arith)
  done_own c (Return w) h = absurd (omega (arith, h, return_number c w))
  done_own c (Steal w v) h = absurd (omega arith)
  done_own c (Sync w) h = absurd (omega arith)
  done_own c (Read w x) h = absurd (omega arith)
  done_own c (Write w x v) h = refl
  done_own c (Fold w i x) h = absurd (omega arith)

  step_own : (c : Core) (st : Step) → OwnNumber (step_on layout c st)
  unfolding step_on
  step_own c st = judged_own (tests_of layout c st) c (done_by layout c st) (done_own c st)

-- and only a write answers so
abbrev IsWrite : Step → Type 0
IsWrite st = (w : ℕ) × (x : ℕ) × (v : ℕ) × (st ≡ Write w x v)

module _ (layout : Layout) (pools : PoolLaws layout) where
  judged-write : (ts : List (Bool × Refusal)) (c : Core) (d : StepResult) → (answer_words (judged ts c d).answer).0 ≡ 106 → (answer_words d.answer).0 ≡ 106
  judged-write [] c d h = h
  judged-write (t ∷ ts) c d h = elim (decided t.0) [ inl e ↦ absurd (omega (arith, rw e at h, (number_range t.1).1)) | inr e ↦ judged-write ts c d (rw e at h) ]

  done_write : (c : Core) (st : Step) → (answer_words (done_by layout c st).answer).0 ≡ 106 → IsWrite st
  unfolding spawn_on steal_on sync_on read_on write_on fold_on
  done_write c (Spawn w) h = absurd (omega arith)
  done_write c (Return w) h = absurd (omega (arith, h, return_number layout pools c w))
  done_write c (Steal w v) h = absurd (omega arith)
  done_write c (Sync w) h = absurd (omega arith)
  done_write c (Read w x) h = absurd (omega arith)
  done_write c (Write w x v) h = (w, x, v, refl)
  done_write c (Fold w i x) h = absurd (omega arith)

  step-write : (c : Core) (st : Step) → (answer_words (step_on layout c st).answer).0 ≡ 106 → IsWrite st
  unfolding step_on
  step-write c st h = done_write c st (judged-write (tests_of layout c st) c (done_by layout c st) h)

  -- ---- a step

  module _ (M : Machine) (c : Core) (st : Step) (K : Carried layout pools M c) where
    abbrev M₁ : Machine
    M₁ = roomed layout pools M c st K

    -- the engine's own number of free nodes is that of the chain
    own_left : (step_on layout c st).core.head.free_count ≡ (pool_at layout c (Some st)).free
    own_left = sym (is_sound_lem layout pools (step_carried layout pools M c st K)).1

    -- that of a write is the one before, less the nodes that it takes
    own_written : is_written (answer M₁ st) ≡ true → (step_on layout c st).core.head.free_count ≡ free_nodes M - rest_in layout c (Some st)
    own_written e =
        let a = eqb-true (answer M₁ st).0 106 e in
        let s = step-write c st ((simulated layout pools M c st K).answers.first ∙ a) in
        subst Takes (sym s.3) (takes layout pools M c s.0 s.1 s.2 K) a
      where
        Takes : Step → Type 0
        Takes u = (answer (roomed layout pools M c u K) u).0 ≡ 106 → (step_on layout c u).core.head.free_count ≡ free_nodes M - rest_in layout c (Some u)

    own_after : (step_on layout c st).core.head.free_count ≡ cond (is_written (answer M₁ st)) (free_nodes M - rest_in layout c (Some st)) (pool_at layout c (Some st)).free
    own_after = elim (decided (is_written (answer M₁ st))) [ inl e ↦ rw e (own_written e) | inr e ↦ rw e own_left ]

    step_alike : answer_words (step_on layout c st).answer ≡ cond (is_written (answer M₁ st)) (106, free_nodes M - rest_in layout c (Some st)) (answer M₁ st)
    step_alike = elim (decided (is_written (answer M₁ st))) [
      | inl e ↦ rw e (step_own layout pools c st ((simulated layout pools M c st K).answers.first ∙ eqb-true (answer M₁ st).0 106 e) ∙ ap (λ (k : ℕ). (106, k)) (own_written e))
      | inr e ↦ rw e (elim (simulated layout pools M c st K).answers.unless_written [
        | inl q ↦ q
        | inr q ↦ absurd (eqb-false (answer M₁ st).0 106 e (sym (simulated layout pools M c st K).answers.first ∙ ap (λ (w : ℕ × ℕ). w.0) q.5))
      ])
    ]

  -- the machine alone: nothing is said of views
  abbrev CarriedBy : Plain → Core → Type 0
  CarriedBy P c = Carried layout pools P.machine c

  laws : Laws layout pools from_sound CarriedBy
  laws = record { carried = λ P c K. K; keeps = keeps; alike = alike; elsewhere = λ P c ws' K S. carried_elsewhere layout pools P.machine c ws' K S }
    where
      keeps : (P : Plain) (c : Core) (d : Decoded) → CarriedBy P c → CarriedBy (from_sound.after P d (pool_at layout c d)) (record_on layout c d).core
      keeps P c (Some st) K = subst (λ (k : ℕ). Carried layout pools (with_free (step (roomed layout pools P.machine c st K) st) k) (step_on layout c st).core) (own_after P.machine c st K) (step_carried layout pools P.machine c st K)
      keeps P c None K = rebased layout pools P.machine c (pool_at layout c None).free K.related K.links K.tree K.deques K.marks K.bounds (sym (is_sound_lem layout pools K).1)

      alike : (P : Plain) (c : Core) (d : Decoded) → CarriedBy P c → answer_words (record_on layout c d).answer ≡ from_sound.answers P d (pool_at layout c d)
      alike P c (Some st) K = step_alike P.machine c st K
      alike P c None K = refl

module _ (layout : Layout) where
  -- ---- every list of calls from a sound state

  -- the machine of a sound state follows it
  abbrev plain_at : StateAndPool → Plain
  plain_at h = record { machine = plain_of layout h; views = views_at_start }

module _ (layout : Layout) (pools : PoolLaws layout) where
  follows_sound : (h : StateAndPool) → fits h.state ≡ true → is_sound layout h.state h.pool ≡ true → KeptBy (CarriedBy layout pools) h (plain_at layout h)
  follows_sound h fit e =
      let s = h.state in
      let L = true_fits s fit in
      record {
        core = core_in layout h;
        held = ap (λ z. record { state = z; pool = h.pool }) (sym (state_back s h.pool (core_in layout h).head.free_count L));
        follows = sound_carried layout pools (numbers_of s) (totals_of s) s.deques s.frames h.pool (totals_long s L) L.deques e;
      }

  pub sound-run : (h : StateAndPool) (calls : List Call) → fits h.state ≡ true → is_sound layout h.state h.pool ≡ true → StateWords h.state h.pool → AllCallWords calls → SoundRun layout h calls
  sound-run h calls fit e words All-words =
      let N = (numbers_of h.state).nodes in
      answers_by_lem layout pools from_sound (CarriedBy layout pools) (laws layout pools) (plain_at layout h) N (run_of layout (begun h) calls) (kept_calls layout pools from_sound (CarriedBy layout pools) (laws layout pools) (plain_at layout h) N calls (begun h) All-words (kept_begun layout pools from_sound (CarriedBy layout pools) (laws layout pools) (plain_at layout h) N h (follows_sound h fit e) words refl))

  -- a step or a tape keeps soundness, whatever it hands in
  pub sound_call : (h : StateAndPool) (k : HostCall) → fits h.state ≡ true → is_sound layout h.state h.pool ≡ true → is_sound layout (after_call layout h k).state (after_call layout h k).pool ≡ true
  sound_call h k fit e = fed_sound layout pools from_sound (CarriedBy layout pools) (laws layout pools) (plain_at layout h) (numbers_of h.state).nodes (call_follows layout pools from_sound (CarriedBy layout pools) (laws layout pools) (plain_at layout h) h k (follows_sound h fit e)).fed

  -- and the recorded nodes
  pub call_nodes : (h : StateAndPool) (k : HostCall) → is_sound layout h.state h.pool ≡ true → (numbers_of (after_call layout h k).state).nodes ≡ (numbers_of h.state).nodes
  call_nodes h k e = elim (decided (fits h.state)) [
    | inl f ↦ (call_follows layout pools from_sound (CarriedBy layout pools) (laws layout pools) (plain_at layout h) h k (follows_sound h f e)).nodes
    | inr f ↦ ap (λ (g : StateAndPool). (numbers_of g.state).nodes) (refused_calls layout h k (unfit f)).0
  ]

  -- ---- a saved state reads back

  -- of an image that says a sound state
  module _ (h : StateAndPool) (fit : fits h.state ≡ true) (e : is_sound layout h.state h.pool ≡ true) where
    c : Core
    c = core_in layout h

    same : state_of c ≡ h.state
    unfolding c
    same = state_back h.state h.pool (core_in layout h).head.free_count (true_fits h.state fit)

    carries : Carried layout pools (plain_of layout h) c
    unfolding c follows_sound
    carries = (follows_sound h fit e).follows

    room : layout.words * c.head.numbers.nodes ≤ length c.pool
    unfolding c
    room = sound_room layout h.state h.pool e

    module _ (image : List ℕ) (says : SaysCore layout pools image c) (s : State) (ws work : List ℕ) (parts_fit : fits s ≡ true) (as_many : length s.frames ≡ length h.state.frames) (held : layout.words * (numbers_of h.state).nodes ≤ length ws) (long : (numbers_of h.state).nodes ≤ length work) where
      -- in a pool with the same nodes it is sound
      sound_there : is_sound layout (state_in layout image) (pool_with layout ws image) ≡ true
      unfolding c
      sound_there =
          let ws' = take (layout.words * (numbers_of h.state).nodes) h.pool ++ drop (layout.words * (numbers_of h.state).nodes) ws in
          (λ i. is_sound layout (record { numbers = says.numbers i; deques = says.deques i; frames = says.frames i }) (pool_with_lem layout pools image c says room ws held i))
          ∙ (is_sound_lem layout pools (carried_elsewhere layout pools (plain_of layout h) (core_in layout h) ws' carries (front_same layout pools (numbers_of h.state).nodes h.pool ws room held))).0

      taken : LoadTaken layout s ws work image
      unfolding c
      taken = load_takes layout pools image c says s ws work parts_fit (as_many ∙ (sound_numbers layout h.state h.pool e).table ∙ ap (λ (t : State). (numbers_of t).places) (sym same)) long sound_there

      there : ReadsBack layout h image s ws work
      unfolding c
      there = record {
        accepted = ap (λ (o : LoadResult). o.result) taken.is;
        state = loaded_state layout pools image c says room s ws work taken ∙ same;
        nodes = loaded_front layout pools image c says room s ws work taken;
        same_length = (loaded_beyond layout pools image c says room s ws work taken).0;
        beyond = (loaded_beyond layout pools image c says room s ws work taken).1;
      }

    -- the image that is written
    module _ (words : StateWords h.state h.pool) where
      core-words : StateWords (state_of c) c.pool
      unfolding c
      core-words = subst (λ (t : State). StateWords t h.pool) (sym same) words

      says_saved : SaysCore layout pools (saved_image layout h.state h.pool) c
      unfolding c
      says_saved = subst (λ (t : State). SaysCore layout pools (saved_image layout t h.pool) (core_in layout h)) same (saved_says layout pools (core_in layout h) core-words (core-fits layout pools carries) (is_sound_lem layout pools carries).0)

  pub reads_back : (h : StateAndPool) (work₀ target : List ℕ) → (save_result layout h work₀ target).result ≡ 0 → StateWords h.state h.pool → (s : State) (ws work : List ℕ) → fits s ≡ true → length s.frames ≡ length h.state.frames
      → layout.words * (numbers_of h.state).nodes ≤ length ws → (numbers_of h.state).nodes ≤ length work → ReadsBack layout h (written_image layout h work₀ target) s ws work
  reads_back h work₀ target z words s ws work f as_many held long =
      let T = save_taken layout h work₀ target z in
      let fit = fits_true h.state T.parts in
      subst (λ (b : List ℕ). ReadsBack layout h b s ws work) (sym (accepted_save layout pools h work₀ target z).image) (there h fit T.still (saved_image layout h.state h.pool) (says_saved h fit T.still words) s ws work f as_many held long)
