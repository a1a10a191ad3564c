-- R-8: starts, steps from outside and tapes in both layouts: the same results and answer words, and pools that match again.
use Rattle.model.specs.Record.{Decoded}
use Rattle.std.specs.Prelude.{◌≡◌, Bool, true, false, cond, ◌||◌, List, [], ◌∷◌, ℕ, ◌+◌, ◌*◌, ◌<◌, eqb, leb, length, drop, None, Some}
use Rattle.std.proofs.Math.Path.{refl}
use Rattle.std.proofs.Common.{sym, ap, ◌∙◌, subst, arith}
use Rattle.std.proofs.Math.Logic.{inl, inr}
use Rattle.std.proofs.Math.Dec.{ltb}
use Rattle.words.specs.Tests.{decided, neither, ge_of}
use Rattle.sizes.specs.Sizes.{tree_nodes}
use Rattle.frames.specs.Widths.{max_places}
use Rattle.pool.specs.Pool as Four
use Rattle.packed.specs.Pool as Two
use Rattle.packed.proofs.Theory.Unpacks.{Unpacks}
use Rattle.packed.proofs.Theory.Start.{start_unpacks}
use Rattle.soundness.specs.Layout.{four_words, two_words}
use Rattle.soundness.specs.Soundness.{checked, cleared}
use Rattle.model.specs.Machine.{Machine}
use Rattle.semantics.specs.Core.{Core, StepResult}
use Rattle.semantics.specs.Entries.{State, fits, numbers_of, totals_of, core_of, state_of, chain_free, whole_nodes, StartResult, start_on, start_with, start_accepted, start_refused, record_on, outside_done, outside_with, outside_on, records_of, put_answer, RecordsResult, records_result, run_on, tape_done, unfit_tape, tape_with, tape_on}
use Rattle.semantics.specs.declared.Refusal.{Refusal}
use Rattle.semantics.specs.declared.Refusal.TheVariants.{Values, Workers, Places, Nodes}
use Rattle.semantics.specs.Answers.{refusal_number, answer_words}
use Rattle.semantics.specs.Timing.{Timing, timing_at_start, timed_by, worker_in, timed_over}
use Rattle.semantics.specs.Report.{timing_of}
use Rattle.semantics.specs.Calls.{Start}
use Rattle.semantics.specs.Demands.{plain_start, plain_begun}
use Rattle.semantics.specs.Matching.{SoundMatch, AsManyNodes, SameStart, StartsMatch, SameOutside, StepsMatch, SameTape, TapesMatch}
use Rattle.semantics.proofs.Theory.NumberWords.{numbers_in_lem}
use Rattle.semantics.proofs.Theory.Fitting.{true_fits, totals_long}
use Rattle.semantics.proofs.Theory.Simulation.{numbers_kept}
use Rattle.semantics.proofs.Theory.FourPools.{four_pools}
use Rattle.semantics.proofs.Theory.SoundSteps.{Carried, is_sound_lem, sound_carried, step_carried}
use Rattle.semantics.proofs.Theory.Elsewhere.{with_pool}
use Rattle.semantics.proofs.Theory.Images.{sound_room}
use Rattle.semantics.proofs.Theory.Starts.{Fit, in_range}
use Rattle.semantics.proofs.Theory.StartRelates.{first_core}
use Rattle.semantics.proofs.Theory.StartedRuns.{carried, start_follows}
use Rattle.semantics.proofs.Theory.MatchingSteps.{Alike, step_alike}
use Rattle.semantics.proofs.Theory.Matching.{unpacks_match, same_free, match_unpacks}

-- ---- a record

-- the old core, with its plain machine, and N nodes
record Core₄ (N : ℕ) (c : Core) : Type 0 where
  machine : Machine
  carried : Carried four_words four_pools machine c
  nodes : c.head.numbers.nodes ≡ N

record_core : {N : ℕ} {c : Core} (d : Decoded) → Core₄ N c → Core₄ N (record_on four_words c d).core
record_core {c = c} (Some st) K = record { machine = _; carried = step_carried four_words four_pools K.machine c st K.carried; nodes = (numbers_kept four_words c st).nodes ∙ K.nodes }
record_core None K = K

record_alike : {N : ℕ} {c : Core} {tail ws : List ℕ} (d : Decoded) → Core₄ N c → Unpacks N tail ws c.pool → Alike N tail (record_on two_words (with_pool c ws) d) (record_on four_words c d)
record_alike {N} {c} {tail} {ws} (Some st) K U =
    subst (λ (m : ℕ). Unpacks m tail ws c.pool → Alike m tail (record_on two_words (with_pool c ws) (Some st)) (record_on four_words c (Some st))) K.nodes (λ u. step_alike K.machine c K.carried tail ws u st) U
record_alike {ws = ws} None K U = record { pool = ws; same = refl; unpacks = U }

-- the state that it leaves, with both pools
left_match : {N : ℕ} {c : Core} {tail ws : List ℕ} → Core₄ N c → Unpacks N tail ws c.pool → SoundMatch (state_of c) ws c.pool
left_match {N} {c} {tail} {ws} K U =
    let e : (numbers_of (state_of c)).nodes ≡ N = ap (λ s. s.nodes) (numbers_in_lem c.head.numbers c.totals K.carried.related.totals.long) ∙ K.nodes in
    unpacks_match (state_of c) ws c.pool tail (is_sound_lem four_words four_pools K.carried).0 (subst (λ (m : ℕ). Unpacks m tail ws c.pool) (sym e) U)

-- ---- the records of a tape

record RunAlike (N : ℕ) (tail : List ℕ) (r₂ r₄ : RecordsResult) : Type 0 where
  pool : List ℕ
  same : r₂ ≡ records_result (with_pool r₄.core pool) r₄.answers
  unpacks : Unpacks N tail pool r₄.core.pool
  core : Core₄ N r₄.core

run_alike : {N : ℕ} {tail : List ℕ} (ds : List Decoded) (c : Core) (ws as' : List ℕ) (k : ℕ) → Core₄ N c → Unpacks N tail ws c.pool
    → RunAlike N tail (run_on two_words (records_result (with_pool c ws) as') k ds) (run_on four_words (records_result c as') k ds)
unfolding run_on
run_alike [] c ws as' k K U = record { pool = ws; same = refl; unpacks = U; core = K }
run_alike {N} {tail} (d ∷ ds) c ws as' k K U =
    let A = record_alike d K U in
    let o : StepResult = record_on four_words c d in
    let r₄ : RecordsResult = run_on four_words (records_result o.core (put_answer as' k o.answer)) (k + 2) ds in
    subst (λ (x : StepResult). RunAlike N tail (run_on two_words (records_result x.core (put_answer as' k x.answer)) (k + 2) ds) r₄) (sym A.same)
    (run_alike ds o.core A.pool (put_answer as' k o.answer) (k + 2) (record_core d K) A.unpacks)

-- R-7: and their clocks
timed_alike : {N : ℕ} {tail : List ℕ} (ds : List Decoded) (c : Core) (ws : List ℕ) (t : Timing) → Core₄ N c → Unpacks N tail ws c.pool → timed_over two_words (with_pool c ws) ds t ≡ timed_over four_words c ds t
unfolding timed_over
timed_alike [] c ws t K U = refl
timed_alike (d ∷ ds) c ws t K U =
    let A = record_alike d K U in
    let a = answer_words (record_on four_words c d).answer in
    ap (λ (x : StepResult). timed_over two_words x.core ds (timed_by c (worker_in d) (answer_words x.answer) t)) A.same
    ∙ timed_alike ds (record_on four_words c d).core A.pool (timed_by c (worker_in d) a t) (record_core d K) A.unpacks

-- ---- a sound state with matching pools

module _ (s : State) (ws₂ ws₄ : List ℕ) (S : SoundMatch s ws₂ ws₄) where
  abbrev N : ℕ
  N = (numbers_of s).nodes

  unpacks : Unpacks N (drop (2 * N) ws₂) ws₂ ws₄
  unpacks = match_unpacks s ws₂ S.two_sound ws₄ (sound_room four_words s ws₄ S.four_sound) S.matches

  as_many_free : chain_free two_words s ws₂ ≡ chain_free four_words s ws₄
  as_many_free = same_free s ws₂ ws₄ (drop (2 * N) ws₂) S.four_sound unpacks

  abbrev core₄ : Core
  core₄ = core_of s ws₄ (chain_free four_words s ws₄)

  carried₄ : fits s ≡ true → Core₄ N core₄
  carried₄ f =
      let F = true_fits s f in
      record { machine = _; carried = sound_carried four_words four_pools (numbers_of s) (totals_of s) s.deques s.frames ws₄ (totals_long s F) F.deques S.four_sound; nodes = refl }

  -- ---- a step from outside

  outside_done_lem : (work : List ℕ) (d : Decoded) → fits s ≡ true → SameOutside (outside_done (record_on two_words (core_of s ws₂ (chain_free two_words s ws₂)) d) work) (outside_done (record_on four_words core₄ d) work)
  outside_done_lem work d f =
      let K = carried₄ f in
      let A = record_alike d K unpacks in
      rw (as_many_free, A.same) (record { result = refl; state = refl; work = refl; after = left_match (record_core d K) A.unpacks })

  outside_both : (work : List ℕ) (d : Decoded) → SameOutside (outside_on two_words s ws₂ work d) (outside_on four_words s ws₄ work d)
  unfolding outside_on outside_with checked
  outside_both work d = elim (decided (fits s)) [
    | inr f ↦ rw f (record { result = refl; state = refl; work = refl; after = S })
    | inl f ↦ elim (decided (leb N (length work))) [
      | inr l ↦ rw (f, l) (record { result = refl; state = refl; work = refl; after = S })
      | inl l ↦ rw (f, l, S.two_sound, S.four_sound) (outside_done_lem (cleared N work) d f)
    ]
  ]

  -- ---- a tape

  tape_done_lem : (work answers : List ℕ) (ds : List Decoded) → fits s ≡ true
      → SameTape (tape_done (run_on two_words (records_result (core_of s ws₂ (chain_free two_words s ws₂)) answers) 0 ds) work) (tape_done (run_on four_words (records_result core₄ answers) 0 ds) work)
  tape_done_lem work answers ds f =
      let A = run_alike ds core₄ ws₂ answers 0 (carried₄ f) unpacks in
      rw (as_many_free, A.same) (record { result = refl; state = refl; work = refl; answers = refl; after = left_match A.core A.unpacks })

  pub tape_with_lem : (work tape answers : List ℕ) → fits s ≡ true → SameTape (tape_with two_words s ws₂ work tape answers) (tape_with four_words s ws₄ work tape answers)
  unfolding tape_with checked
  tape_with_lem work tape answers f = elim (decided (unfit_tape tape answers)) [
    | inl t ↦ rw t (record { result = refl; state = refl; work = refl; answers = refl; after = S })
    | inr t ↦ elim (decided (leb N (length work))) [
      | inr l ↦ rw (t, l) (record { result = refl; state = refl; work = refl; answers = refl; after = S })
      | inl l ↦ rw (t, l, S.two_sound, S.four_sound) (tape_done_lem (cleared N work) answers (records_of tape) f)
    ]
  ]

  tape-both : (work tape answers : List ℕ) → SameTape (tape_on two_words s ws₂ work tape answers) (tape_on four_words s ws₄ work tape answers)
  unfolding tape_on
  tape-both work tape answers = elim (decided (fits s)) [
    | inr f ↦ rw f (record { result = refl; state = refl; work = refl; answers = refl; after = S })
    | inl f ↦ rw f (tape_with_lem work tape answers f)
  ]

  -- R-7: with the same clocks
  pub same-timing : (tape clocks : List ℕ) → fits s ≡ true → timing_of two_words s ws₂ tape clocks ≡ timing_of four_words s ws₄ tape clocks
  same-timing tape clocks f =
      ap (λ (k : ℕ). timed_over two_words (core_of s ws₂ k) (records_of tape) (timing_at_start clocks)) as_many_free ∙ timed_alike (records_of tape) core₄ ws₂ (timing_at_start clocks) (carried₄ f) unpacks

-- ---- a start

module _ (workers : ℕ) (vs : List ℕ) (parts : State) (ws₂ ws₄ : List ℕ) (m : AsManyNodes ws₂ ws₄) where
  -- that is accepted
  module _ (F : Fit four_words workers vs parts.frames ws₄) where
    abbrev M₄ : ℕ
    M₄ = whole_nodes four_words ws₄

    started : Unpacks M₄ (drop (2 * M₄) ws₂) (Two.init_pool ws₂ (length vs) M₄ vs).0 (Four.init_pool ws₄ (length vs) M₄ vs).0 × ((Two.init_pool ws₂ (length vs) M₄ vs).1 ≡ (Four.init_pool ws₄ (length vs) M₄ vs).1)
    started = start_unpacks ws₂ ws₄ (length vs) M₄ vs F.enough F.nodes_le (omega (arith, m)) (omega arith)

    first_match : SoundMatch (start_accepted four_words workers vs parts.frames ws₄).state (Two.init_pool ws₂ (length vs) M₄ vs).0 (start_accepted four_words workers vs parts.frames ws₄).pool
    first_match =
        let b : Start = record { parts = parts; workers = workers; values = vs; pool = ws₄ } in
        left_match (record { machine = plain_start four_words b; carried = carried four_words four_pools (plain_begun four_words b) (first_core four_words workers vs parts.frames ws₄) (start_follows four_words four_pools b F); nodes = refl }) started.0

    accepted_match : SameStart (start_accepted two_words workers vs parts.frames ws₂) (start_accepted four_words workers vs parts.frames ws₄)
    accepted_match = rw (m, started.1) (record { result = refl; state = refl; after = λ z. first_match })

  refused_match : (r : Refusal) → 0 < refusal_number r → SameStart (start_refused r parts.frames ws₂) (start_refused r parts.frames ws₄)
  refused_match r h = record { result = refl; state = refl; after = λ z. absurd (omega (arith, z, h)) }

  -- one test after the other
  tested : (b₂ b₄ : Bool) (r : Refusal) {y₂ y₄ : StartResult} → 0 < refusal_number r → b₂ ≡ b₄ → (b₄ ≡ false → SameStart y₂ y₄) → SameStart (cond b₂ (start_refused r parts.frames ws₂) y₂) (cond b₄ (start_refused r parts.frames ws₄) y₄)
  tested b₂ b₄ r h e k = elim (decided b₄) [ inl t ↦ rw (e ∙ t, t) (refused_match r h) | inr t ↦ rw (e ∙ t, t) (k t) ]

  nodes_test : ℕ → Bool
  nodes_test k = ltb k (tree_nodes (length vs)) || ltb 16384 k

  pub with_match : SameStart (start_with two_words workers vs parts.frames ws₂) (start_with four_words workers vs parts.frames ws₄)
  unfolding start_with nodes_test
  with_match =
      tested (eqb (length vs) 0 || ltb 256 (length vs)) (eqb (length vs) 0 || ltb 256 (length vs)) Values (omega arith) refl (λ a.
      tested (eqb workers 0 || ltb 8 workers) (eqb workers 0 || ltb 8 workers) Workers (omega arith) refl (λ b.
      tested (eqb (length parts.frames) 0 || ltb max_places (length parts.frames)) (eqb (length parts.frames) 0 || ltb max_places (length parts.frames)) Places (omega arith) refl (λ t.
      tested (nodes_test (whole_nodes two_words ws₂)) (nodes_test (whole_nodes four_words ws₄)) Nodes (omega arith) (ap nodes_test m) (λ d.
      let x = in_range (length vs) 256 a in
      let y = in_range workers 8 b in
      let p = in_range (length parts.frames) max_places t in
      let z = neither (ltb (whole_nodes four_words ws₄) (tree_nodes (length vs))) (ltb 16384 (whole_nodes four_words ws₄)) d in
      accepted_match (record { values_positive = x.0; values_le = x.1; workers_positive = y.0; workers_le = y.1; places_positive = p.0; places_le = p.1; enough = ge_of z.0; nodes_le = ge_of z.1 })))))

  start-both : SameStart (start_on two_words parts workers vs ws₂) (start_on four_words parts workers vs ws₄)
  unfolding start_on
  start-both = elim (decided (fits parts)) [ inl f ↦ rw f with_match | inr f ↦ rw f (record { result = refl; state = refl; after = λ z. absurd (omega (arith, z)) }) ]

-- ---- the statements

pub starts_match : (parts : State) (workers : ℕ) (values ws₂ ws₄ : List ℕ) → StartsMatch parts workers values ws₂ ws₄
starts_match parts workers values ws₂ ws₄ m = start-both workers values parts ws₂ ws₄ m

pub steps_match : (s : State) (ws₂ ws₄ work : List ℕ) (d : Decoded) → StepsMatch s ws₂ ws₄ work d
steps_match s ws₂ ws₄ work d S = outside_both s ws₂ ws₄ S work d

pub tapes_match : (s : State) (ws₂ ws₄ work tape answers : List ℕ) → TapesMatch s ws₂ ws₄ work tape answers
tapes_match s ws₂ ws₄ work tape answers S = tape-both s ws₂ ws₄ S work tape answers
