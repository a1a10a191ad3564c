-- Calls, over any relation `Follows P c` that each record keeps: answers, state and pool follow the machine that is fed the same
-- records, through refused calls, refused records and tapes.
use Rattle.semantics.specs.Answers.{Answer}
use Rattle.soundness.specs.Soundness.{Checked}
use Rattle.soundness.specs.declared.CheckError.TheVariants.{NoRoom}
use Rattle.std.specs.Prelude.{◌≡◌, refl, Bool, true, false, cond, not, ℕ, suc, ◌+◌, ◌*◌, ◌/◌, ◌%◌, ◌≤◌, ◌<◌, length, get_or, leb, ltb, eqb, Err, None, Ok, Some}
use Rattle.std.proofs.Common.{sym, ap₂, ◌∙◌, subst, inl, inr, arith, length-append, ltb-false}
use Rattle.std.proofs.Math.Path.{ap}
use mathlib.Core.List.{List, [], ◌∷◌, ◌++◌}
use Rattle.words.specs.Tests.{decided, neither}
use Rattle.sizes.specs.Sizes.{height}
use Rattle.semantics.proofs.Theory.Pools.{SameNodes}
use Rattle.soundness.specs.Soundness.{checked, cleared}
use Rattle.model.specs.Record.{Decoded, record_of}
use Rattle.model.specs.Machine.{Machine}
use Rattle.semantics.specs.declared.Refusal.TheVariants.{Tape}
use Rattle.semantics.specs.Answers.{answer_words, words_in}
use Rattle.semantics.specs.Core.{Core}
use Rattle.semantics.specs.Entries.{numbers_of, head_of, core_of, state_of, checked_state, record_on, OutsideResult, outside_done, outside_checked, outside_with, outside_on, records_of, put_answer, RecordsResult, records_result, run_on, TapeResult, tape_done, tape_refused, tape_checked, unfit_tape, tape_with, tape_on}
use Rattle.semantics.specs.Calls.{HostCall, outside, tape, StateAndPool, after_call, Exchange, refused_whole, exchanges_from, exchanges_of, records_in, answers_in, PoolAt, pool_at, pools_at, core_in}
use Rattle.semantics.specs.Demands.{Plain, Specification, answers_by, machine_by}
use Rattle.semantics.specs.Promises.{Fits}
use Rattle.semantics.proofs.Theory.Pools.{Beyond}
use Rattle.semantics.proofs.Theory.FromSoundRelates.{map-append}
use Rattle.semantics.proofs.Theory.Simulation.{numbers_kept}
use Rattle.semantics.proofs.Theory.NumberWords.{numbers_in_lem, totals_in_lem}
use Rattle.semantics.proofs.Theory.SoundSteps.{step_beyond, Carried, is_sound_lem}
use Rattle.semantics.proofs.Theory.Elsewhere.{with_pool}
use Rattle.semantics.proofs.Theory.Fitting.{fits_true}
use Rattle.semantics.proofs.Theory.Words.{words_low, words_back, not_whole}
use Rattle.semantics.proofs.Theory.TapeWords.{length_records, records_from_lem, put_long, put_before, put_first, put_second}
use Rattle.soundness.specs.Layout.{Layout}
use Rattle.semantics.proofs.Theory.Pools.{PoolLaws}

-- ---- a core that the machine P, with the views beside it, follows

-- the host has the core's state and pool
abbrev pub state_and_pool : Core → StateAndPool
state_and_pool c = record { state = state_of c; pool = c.pool }

module _ (layout : Layout) (pools : PoolLaws layout) where
  -- what a relation has to do: each record keeps it, and is answered as S says; the same nodes in another pool keep it
  pub record Laws (S : Specification) (Follows : Plain → Core → Type 0) : Type 0 where
    pub carried : (P : Plain) (c : Core) → Follows P c → Carried layout pools P.machine c
    pub keeps : (P : Plain) (c : Core) (d : Decoded) → Follows P c → Follows (S.after P d (pool_at layout c d)) (record_on layout c d).core
    pub alike : (P : Plain) (c : Core) (d : Decoded) → Follows P c → answer_words (record_on layout c d).answer ≡ S.answers P d (pool_at layout c d)
    pub elsewhere : (P : Plain) (c : Core) (ws' : List ℕ) → Follows P c → SameNodes layout c.head.numbers.nodes c.pool ws' → Follows P (with_pool c ws')

-- the host's state and pool are those of a core that P follows
pub record KeptBy (Follows : Plain → Core → Type 0) (h : StateAndPool) (P : Plain) : Type 0 where
  pub core : Core
  pub held : h ≡ state_and_pool core
  pub follows : Follows P core

module _ (layout : Layout) (pools : PoolLaws layout) where
  module _ {M : Machine} {c : Core} (K : Carried layout pools M c) where
    pub core-fits : Fits (state_of c)
    core-fits = record { numbers = omega (arith, K.related.totals.long, length-append c.totals (c.head.numbers.places ∷ [])); deques = K.related.formed.shaped.long }

    -- the engine's words, with the free nodes counted, are the core
    core_back : core_of (state_of c) c.pool c.head.free_count ≡ c
    core_back = same-words ∙ ap with_height (sym (K.related.numbers.height_is ∙ ap height (sym K.related.numbers.splitters)))
      where
        with_height : ℕ → Core
        with_height q = record { head = record { numbers = c.head.numbers; height = q; free_count = c.head.free_count }; totals = c.totals; deques = c.deques; frames = c.frames; pool = c.pool }

        same-words : core_of (state_of c) c.pool c.head.free_count ≡ with_height (height c.head.numbers.splitters)
        same-words =
            let s = c.head.numbers in
            let ts = c.totals in
            let long = K.related.totals.long in
            λ i. record { head = head_of (numbers_in_lem s ts long i) c.head.free_count; totals = totals_in_lem s ts long i; deques = c.deques; frames = c.frames; pool = c.pool }

    pub core-counted : core_in layout (state_and_pool c) ≡ c
    core-counted = ap (core_of (state_of c) c.pool) (is_sound_lem layout pools K).1 ∙ core_back

    record_beyond : (d : Decoded) → Beyond layout c.head.numbers.nodes c.pool (record_on layout c d).core.pool
    record_beyond (Some st) = step_beyond layout pools M c K st
    record_beyond None = (refl, refl)

    -- ---- the check

    pub check_long : (work : List ℕ) → leb c.head.numbers.nodes (length work) ≡ true → checked_state layout (state_of c) c.pool work ≡ Ok c.head.free_count
    unfolding checked
    check_long work e = rw (e, (is_sound_lem layout pools K).0, (is_sound_lem layout pools K).1)

    check_short : (work : List ℕ) → leb c.head.numbers.nodes (length work) ≡ false → checked_state layout (state_of c) c.pool work ≡ (Err NoRoom)
    unfolding checked
    check_short work e = rw e

    -- ---- a step from outside

    outside_is : (work : List ℕ) (d : Decoded) {k : Checked} → checked_state layout (state_of c) c.pool work ≡ k → outside_on layout (state_of c) c.pool work d ≡ outside_checked layout k (state_of c) c.pool work d
    unfolding outside_on outside_with
    outside_is work d e = rw (fits_true (state_of c) core-fits, e)

    outside_done_lem : (work : List ℕ) (d : Decoded) → leb c.head.numbers.nodes (length work) ≡ true → outside_on layout (state_of c) c.pool work d ≡ outside_done (record_on layout c d) (cleared c.head.numbers.nodes work)
    outside_done_lem work d e = outside_is work d (check_long work e) ∙ ap (λ (q : Core). outside_done (record_on layout q d) (cleared c.head.numbers.nodes work)) core_back

    -- ---- a tape

    tape_is : (bytes work as' : List ℕ) → unfit_tape bytes as' ≡ false → {k : Checked} → checked_state layout (state_of c) c.pool work ≡ k
        → tape_on layout (state_of c) c.pool work bytes as' ≡ tape_checked layout k (state_of c) c.pool work bytes as'
    unfolding tape_on tape_with
    tape_is bytes work as' t e = rw (fits_true (state_of c) core-fits, t, e)

    tape-unfit : (bytes work as' : List ℕ) → unfit_tape bytes as' ≡ true → tape_on layout (state_of c) c.pool work bytes as' ≡ tape_refused (state_of c) c.pool work as' Tape
    unfolding tape_on tape_with
    tape-unfit bytes work as' t = rw (fits_true (state_of c) core-fits, t)

    pub tape_done_lem : (bytes work as' : List ℕ) → unfit_tape bytes as' ≡ false → leb c.head.numbers.nodes (length work) ≡ true
        → tape_on layout (state_of c) c.pool work bytes as' ≡ tape_done (run_on layout (records_result c as') 0 (records_of bytes)) (cleared c.head.numbers.nodes work)
    tape_done_lem bytes work as' t e =
        tape_is bytes work as' t (check_long work e) ∙ ap (λ (q : Core). tape_done (run_on layout (records_result q as') 0 (records_of bytes)) (cleared c.head.numbers.nodes work)) core_back

module _ (layout : Layout) where
  record_nodes : (c : Core) (d : Decoded) → (record_on layout c d).core.head.numbers.nodes ≡ c.head.numbers.nodes
  record_nodes c (Some st) = (numbers_kept layout c st).nodes
  record_nodes c None = refl

  -- ---- what a call leaves and tells, at once

  abbrev called : StateAndPool → HostCall → StateAndPool × List Exchange
  called h k = (after_call layout h k, exchanges_of layout h k)

abbrev outside_told : Decoded → OutsideResult → StateAndPool × List Exchange
outside_told d o = (record { state = o.state; pool = o.pool }, cond (refused_whole (words_in o.result)) [] ((d, words_in o.result) ∷ []))

abbrev tape_told : List ℕ → TapeResult → StateAndPool × List Exchange
tape_told bytes o = (record { state = o.state; pool = o.pool }, cond (eqb o.result 0) (exchanges_from o.answers 0 (records_of bytes)) [])

module _ (layout : Layout) (pools : PoolLaws layout) where
  module _ {M : Machine} {c : Core} (K : Carried layout pools M c) where
    pub outside_long : (kind worker field value : ℕ) (work : List ℕ) → leb c.head.numbers.nodes (length work) ≡ true
        → let d = record_of kind worker field value in called layout (state_and_pool c) (outside kind worker field value work) ≡ (state_and_pool (record_on layout c d).core, (d, answer_words (record_on layout c d).answer) ∷ [])
    outside_long kind worker field value work e =
        let d : Decoded = record_of kind worker field value in
        let a : Answer = (record_on layout c d).answer in
        ap (outside_told d) (outside_done_lem layout pools K work d e)
        ∙ ap (λ (w : ℕ × ℕ). (state_and_pool (record_on layout c d).core, cond (refused_whole w) [] ((d, w) ∷ []))) (words_back (answer_words a) (words_low a))
        ∙ ap (λ (b : Bool). (state_and_pool (record_on layout c d).core, cond b [] ((d, answer_words a) ∷ []))) (not_whole layout c d)

    outside_short : (kind worker field value : ℕ) (work : List ℕ) → leb c.head.numbers.nodes (length work) ≡ false → called layout (state_and_pool c) (outside kind worker field value work) ≡ (state_and_pool c, [])
    outside_short kind worker field value work e = let d : Decoded = record_of kind worker field value in ap (outside_told d) (outside_is layout pools K work d (check_short layout pools K work e))

    tape_long : (bytes work as' : List ℕ) → unfit_tape bytes as' ≡ false → leb c.head.numbers.nodes (length work) ≡ true
        → let r = run_on layout (records_result c as') 0 (records_of bytes) in called layout (state_and_pool c) (tape bytes work as') ≡ (state_and_pool r.core, exchanges_from r.answers 0 (records_of bytes))
    tape_long bytes work as' t e = ap (tape_told bytes) (tape_done_lem layout pools K bytes work as' t e)

    tape_short : (bytes work as' : List ℕ) → unfit_tape bytes as' ≡ false → leb c.head.numbers.nodes (length work) ≡ false → called layout (state_and_pool c) (tape bytes work as') ≡ (state_and_pool c, [])
    tape_short bytes work as' t e = ap (tape_told bytes) (tape_is layout pools K bytes work as' t (check_short layout pools K work e))

    tape_not : (bytes work as' : List ℕ) → unfit_tape bytes as' ≡ true → called layout (state_and_pool c) (tape bytes work as') ≡ (state_and_pool c, [])
    tape_not bytes work as' t = ap (tape_told bytes) (tape-unfit layout pools K bytes work as' t)

module _ (layout : Layout) where
  -- ---- lists joined

  length_free : (ds : List Decoded) (c : Core) → length (pools_at layout c ds) ≡ length ds
  length_free [] c = refl
  length_free (d ∷ ds) c = ap suc (length_free ds (record_on layout c d).core)

  pub beyond_then : (N : ℕ) (a b c : List ℕ) → Beyond layout N a b → Beyond layout N b c → Beyond layout N a c
  beyond_then N a b c x y = (y.0 ∙ x.0, y.1 ∙ x.1)

module _ (S : Specification) where
  -- a list of records with as many pools, and another
  answers-append : (ds : List Decoded) (ks : List PoolAt) (P : Plain) (ds' : List Decoded) (ks' : List PoolAt) → length ks ≡ length ds
      → answers_by S P (ds ++ ds') (ks ++ ks') ≡ answers_by S P ds ks ++ answers_by S (machine_by S P ds ks) ds' ks'
  answers-append [] [] P ds' ks' l = refl
  answers-append [] (k ∷ ks) P ds' ks' l = absurd (omega arith)
  answers-append (d ∷ ds) [] P ds' ks' l = absurd (omega arith)
  answers-append (d ∷ ds) (k ∷ ks) P ds' ks' l = ap (λ z. S.answers P d k ∷ z) (answers-append ds ks (S.after P d k) ds' ks' (omega arith))

  machine_append : (ds : List Decoded) (ks : List PoolAt) (P : Plain) (ds' : List Decoded) (ks' : List PoolAt) → length ks ≡ length ds
      → machine_by S P (ds ++ ds') (ks ++ ks') ≡ machine_by S (machine_by S P ds ks) ds' ks'
  machine_append [] [] P ds' ks' l = refl
  machine_append [] (k ∷ ks) P ds' ks' l = absurd (omega arith)
  machine_append (d ∷ ds) [] P ds' ks' l = absurd (omega arith)
  machine_append (d ∷ ds) (k ∷ ks) P ds' ks' l = machine_append ds ks (S.after P d k) ds' ks' (omega arith)

-- ---- calls one after the other

-- to h, with the exchanges es and the pools ks
pub record Fed (S : Specification) (Follows : Plain → Core → Type 0) (P : Plain) (h : StateAndPool) (es : List Exchange) (ks : List PoolAt) : Type 0 where
  pub long : length ks ≡ length (records_in es)
  pub kept : KeptBy Follows h (machine_by S P (records_in es) ks)
  pub same : answers_in es ≡ answers_by S P (records_in es) ks

module _ (layout : Layout) where
  -- a call from h to h'
  pub record Ran (S : Specification) (Follows : Plain → Core → Type 0) (P : Plain) (h h' : StateAndPool) (es : List Exchange) (ks : List PoolAt) : Type 0 where
    pub fed : Fed S Follows P h' es ks
    pub nodes : (numbers_of h'.state).nodes ≡ (numbers_of h.state).nodes
    pub beyond : Beyond layout (numbers_of h.state).nodes h.pool h'.pool

module _ (layout : Layout) (pools : PoolLaws layout) where
  module _ (S : Specification) (Follows : Plain → Core → Type 0) (L : Laws layout pools S Follows) where
    pub fed_then : (P : Plain) (h₁ h₂ : StateAndPool) (es es₁ : List Exchange) (ks ks₁ : List PoolAt) → Fed S Follows P h₁ es ks → Fed S Follows (machine_by S P (records_in es) ks) h₂ es₁ ks₁
        → Fed S Follows P h₂ (es ++ es₁) (ks ++ ks₁)
    fed_then P h₁ h₂ es es₁ ks ks₁ A B =
        let e : records_in (es ++ es₁) ≡ records_in es ++ records_in es₁ = map-append (λ (t : Exchange). t.0) es es₁ in
        record {
          long = omega (arith, length-append ks ks₁, ap length e, length-append (records_in es) (records_in es₁), A.long, B.long);
          kept = subst (KeptBy Follows h₂) (sym (ap (λ z. machine_by S P z (ks ++ ks₁)) e ∙ machine_append S (records_in es) ks P (records_in es₁) ks₁ A.long)) B.kept;
          same = map-append (λ (t : Exchange). t.1) es es₁ ∙ ap₂ ◌++◌ A.same B.same ∙ sym (ap (λ z. answers_by S P z (ks ++ ks₁)) e ∙ answers-append S (records_in es) ks P (records_in es₁) ks₁ A.long);
        }

    -- ---- the records of a tape

    record RanOn (P : Plain) (c : Core) (as' : List ℕ) (k : ℕ) (ds : List Decoded) (r : RecordsResult) : Type 0 where
      follows : Follows (machine_by S P ds (pools_at layout c ds)) r.core
      before : (j : ℕ) → j < k → get_or r.answers j 0 ≡ get_or as' j 0
      same : answers_in (exchanges_from r.answers k ds) ≡ answers_by S P ds (pools_at layout c ds)
      nodes : r.core.head.numbers.nodes ≡ c.head.numbers.nodes
      beyond : Beyond layout c.head.numbers.nodes c.pool r.core.pool

    runs_on : (ds : List Decoded) (P : Plain) (c : Core) (as' : List ℕ) (k : ℕ) → Follows P c → k + 2 * length ds ≤ length as' → RanOn P c as' k ds (run_on layout (records_result c as') k ds)
    unfolding run_on
    runs_on [] P c as' k f h = record { follows = f; before = λ j b. refl; same = refl; nodes = refl; beyond = (refl, refl) }
    runs_on (d ∷ ds) P c as' k f h =
        let a = (record_on layout c d).answer in
        let c₁ = (record_on layout c d).core in
        let R = runs_on ds (S.after P d (pool_at layout c d)) c₁ (put_answer as' k a) (k + 2) (L.keeps P c d f) (omega (arith, put_long as' k a)) in
        let fst = R.before k (omega arith) ∙ put_first as' k a (omega arith) ∙ ap (λ p. p.0) (L.alike P c d f) in
        let snd = R.before (suc k) (omega arith) ∙ put_second as' k a (omega arith) ∙ ap (λ p. p.1) (L.alike P c d f) in
        record {
          follows = R.follows;
          before = λ j b. R.before j (omega arith) ∙ put_before as' k j a b;
          same = λ i. (fst i, snd i) ∷ R.same i;
          nodes = R.nodes ∙ record_nodes layout c d;
          beyond = beyond_then layout c.head.numbers.nodes c.pool c₁.pool (run_on layout (records_result c₁ (put_answer as' k a)) (k + 2) ds).core.pool (record_beyond layout pools (L.carried P c f) d)
              (subst (λ N. Beyond layout N c₁.pool (run_on layout (records_result c₁ (put_answer as' k a)) (k + 2) ds).core.pool) (record_nodes layout c d) R.beyond);
        }

    -- ---- a call, and calls

    module _ (P : Plain) (c : Core) (f : Follows P c) where
      -- what a call leaves and tells, from the core c
      abbrev RanFrom : StateAndPool × List Exchange → Type 0
      RanFrom p = Ran layout S Follows P (state_and_pool c) p.0 p.1 (pools_at layout c (records_in p.1))

      still : RanFrom (state_and_pool c, [])
      still = record { fed = record { long = refl; kept = record { core = c; held = refl; follows = f }; same = refl }; nodes = refl; beyond = (refl, refl) }

      one : (d : Decoded) → RanFrom (state_and_pool (record_on layout c d).core, (d, answer_words (record_on layout c d).answer) ∷ [])
      one d = record {
        fed = record { long = refl; kept = record { core = (record_on layout c d).core; held = refl; follows = L.keeps P c d f }; same = ap (λ (w : ℕ × ℕ). w ∷ []) (L.alike P c d f) };
        nodes = record_nodes layout c d;
        beyond = record_beyond layout pools (L.carried P c f) d;
      }

      all_records : (ds : List Decoded) (as' : List ℕ) → 2 * length ds ≤ length as' → let r = run_on layout (records_result c as') 0 ds in RanFrom (state_and_pool r.core, exchanges_from r.answers 0 ds)
      all_records ds as' room =
          let r = run_on layout (records_result c as') 0 ds in
          let R = runs_on ds P c as' 0 f (omega (arith, room)) in
          let v = sym (records_from_lem r.answers 0 ds) in
          record {
            fed = record {
              long = length_free layout (records_in (exchanges_from r.answers 0 ds)) c;
              kept = record { core = r.core; held = refl; follows = subst (λ z. Follows (machine_by S P z (pools_at layout c z)) r.core) v R.follows };
              same = R.same ∙ ap (λ z. answers_by S P z (pools_at layout c z)) v;
            };
            nodes = R.nodes;
            beyond = R.beyond;
          }

      call_at : (k : HostCall) → RanFrom (called layout (state_and_pool c) k)
      call_at (outside kind worker field value work) = elim (decided (leb c.head.numbers.nodes (length work))) [
        | inl e ↦ subst RanFrom (sym (outside_long layout pools (L.carried P c f) kind worker field value work e)) (one (record_of kind worker field value))
        | inr e ↦ subst RanFrom (sym (outside_short layout pools (L.carried P c f) kind worker field value work e)) still
      ]
      call_at (tape bytes work as') = elim (decided (unfit_tape bytes as')) [
        | inl t ↦ subst RanFrom (sym (tape_not layout pools (L.carried P c f) bytes work as' t)) still
        | inr t ↦ elim (decided (leb c.head.numbers.nodes (length work))) [
          | inl e ↦
              let room = ltb-false (length as') (2 * (length bytes / 8)) (neither (not (eqb (length bytes % 8) 0)) (ltb (length as') (2 * (length bytes / 8))) t).1 in
              subst RanFrom (sym (tape_long layout pools (L.carried P c f) bytes work as' t e)) (all_records (records_of bytes) as' (omega (arith, room, length_records (length bytes / 8) bytes 0)))
          | inr e ↦ subst RanFrom (sym (tape_short layout pools (L.carried P c f) bytes work as' t e)) still
        ]
      ]

    pub call_follows : (P : Plain) (h : StateAndPool) (k : HostCall) → KeptBy Follows h P → Ran layout S Follows P h (after_call layout h k) (exchanges_of layout h k) (pools_at layout (core_in layout h) (records_in (exchanges_of layout h k)))
    call_follows P h k K =
        let c = K.core in
        subst (λ q. Ran layout S Follows P q (after_call layout q k) (exchanges_of layout q k) (pools_at layout (core_in layout q) (records_in (exchanges_of layout q k)))) (sym K.held)
        (subst (λ b. Ran layout S Follows P (state_and_pool c) (after_call layout (state_and_pool c) k) (exchanges_of layout (state_and_pool c) k) (pools_at layout b (records_in (exchanges_of layout (state_and_pool c) k)))) (sym (core-counted layout pools (L.carried P c K.follows)))
        (call_at P c K.follows k))
