-- What a call leaves when it is refused, and of the work slice and the answer words in any case; for every state and pool.
use Rattle.semantics.specs.Answers.{Answer}
use Rattle.soundness.specs.Soundness.{Checked}
use Rattle.soundness.specs.declared.CheckError.{CheckError}
use Rattle.soundness.specs.declared.CheckError.TheVariants.{NoRoom}
use Rattle.std.specs.Prelude.{◌≡◌, Bool, false, cond, ℕ, suc, ◌+◌, ◌*◌, ◌/◌, ◌≤◌, ◌<◌, length, drop, set, eqb, leb, Err, None, Ok}
use Rattle.std.proofs.Math.Path.{refl}
use Rattle.std.proofs.Common.{sym, ap, ap₂, ◌∙◌, subst, drop-set-lt, leb-false, ne_eqb}
use Rattle.std.proofs.Math.Logic.{inl, inr}
use mathlib.Core.List.{List, [], ◌∷◌}
use native.Mathlib.Omega.{arith}
use Rattle.words.specs.Tests.{decided, neither}
use Rattle.soundness.specs.Soundness.{cleared}
use Rattle.model.specs.Record.{Decoded, record_of}
use Rattle.semantics.specs.Answers.{answer_words, words_in}
use Rattle.semantics.specs.Core.{Core}
use Rattle.semantics.specs.Entries.{State, fits, core_of, state_of, numbers_of, checked_state, StartResult, whole_nodes, record_on, outside_checked, outside_with, outside_on, records_of, put_answer, records_result, run_on, unfit_tape, TapeResult, tape_checked, tape_with, tape_on}
use Rattle.semantics.specs.Calls.{Start, start_result, HostCall, outside, tape, StateAndPool, refused_whole}
use Rattle.semantics.specs.Demands.{RefusedStart, AcceptedStart, IsRefused, RefusedCall, SamePast, before_check, WorkAfter}
use Rattle.semantics.specs.Promises.{Fits}
use Rattle.semantics.proofs.Theory.Fitting.{true_fits, state_back}
use Rattle.semantics.proofs.Theory.Words.{words_low, words_back, not_whole, refused_keeps}
use Rattle.semantics.proofs.Theory.TapeWords.{length_records, put_long}
use Rattle.frames.proofs.Theory.Start.{length_init}
use Rattle.semantics.proofs.Theory.Starts.{start_cases, started_fit}
use Rattle.soundness.specs.Layout.{Layout}
use Rattle.semantics.proofs.Theory.Pools.{PoolLaws}

module _ (layout : Layout) where
  -- ---- a start

  pub refused_start : (b : Start) → 0 < (start_result layout b).result → RefusedStart layout b
  refused_start b h = elim (start_cases layout b.parts b.workers b.values b.pool) [
    | inl e ↦ record { state = λ r. ap (λ (o : StartResult). o.state) e; zero = λ r. absurd (omega (arith, r, ap (λ (o : StartResult). o.result) e)); pool = ap (λ (o : StartResult). o.pool) e }
    | inr (inl R) ↦ record {
      state = λ r. absurd (omega (arith, r, R.low, ap (λ (o : StartResult). o.result) R.result));
      zero = λ r. ap (λ (o : StartResult). o.state) R.result;
      pool = ap (λ (o : StartResult). o.pool) R.result;
    }
    | inr (inr A) ↦ absurd (omega (arith, h, ap (λ (o : StartResult). o.result) A.result))
  ]

module _ (layout : Layout) (pools : PoolLaws layout) where
  pub accepted-start : (b : Start) → (start_result layout b).result ≡ 0 → AcceptedStart layout b
  accepted-start b e =
      let A = started_fit layout b.parts b.workers b.values b.pool e in
      let N = whole_nodes layout b.pool in
      let G = pools.good_start N (length b.values) A.fit.nodes_le A.fit.values_positive b.pool b.values A.fit.enough (pools.whole (length b.pool)) in
      let p = ap (λ (o : StartResult). o.pool) A.result in
      record { same_places = ap (λ (o : StartResult). length o.state.frames) A.result ∙ length_init b.parts.frames; same_length = ap length p ∙ G.1.0; beyond = ap (drop (layout.words * N)) p ∙ G.1.1 }

-- ---- a refused call

-- the state and the pool are as they were
abbrev Same : State → List ℕ → State → List ℕ → Type 0
Same s ws s' ws' = (s' ≡ s) × (ws' ≡ ws)

module _ (layout : Layout) where
  module _ (s : State) (ws work : List ℕ) where
    outside_checked_keeps : Fits s → (k : Checked) (d : Decoded) → (words_in (outside_checked layout k s ws work d).result).0 < 100
        → Same s ws (outside_checked layout k s ws work d).state (outside_checked layout k s ws work d).pool
    outside_checked_keeps F (Err NoRoom) d h = (refl, refl)
    outside_checked_keeps F (Err CheckError.Unsound) d h = (refl, refl)
    outside_checked_keeps F (Ok n) d h =
        let c : Core = core_of s ws n in
        let a : Answer = (record_on layout c d).answer in
        let e = refused_keeps layout c d (subst (λ (w : ℕ × ℕ). w.0 < 100) (words_back (answer_words a) (words_low a)) h) in
        (ap state_of e ∙ state_back s ws n F, ap (λ (q : Core). q.pool) e)

    outside_keeps : (d : Decoded) → (words_in (outside_on layout s ws work d).result).0 < 100 → Same s ws (outside_on layout s ws work d).state (outside_on layout s ws work d).pool
    unfolding outside_on outside_with
    outside_keeps d h = elim (decided (fits s)) [ inl e ↦ rw e (outside_checked_keeps (true_fits s e) (checked_state layout s ws work) d (rw e at h)) | inr e ↦ rw e (refl, refl) ]

    module _ (bytes rs : List ℕ) where
      abbrev SameTape : TapeResult → Type 0
      SameTape o = Same s ws o.state o.pool × (o.answers ≡ rs)

      tape-checked_keeps : (k : Checked) → 0 < (tape_checked layout k s ws work bytes rs).result → SameTape (tape_checked layout k s ws work bytes rs)
      tape-checked_keeps (Err NoRoom) h = ((refl, refl), refl)
      tape-checked_keeps (Err CheckError.Unsound) h = ((refl, refl), refl)
      tape-checked_keeps (Ok n) h = absurd (omega arith)

      tape_keeps : 0 < (tape_on layout s ws work bytes rs).result → SameTape (tape_on layout s ws work bytes rs)
      unfolding tape_on tape_with
      tape_keeps h = elim (decided (fits s)) [
        | inl e ↦ elim (decided (unfit_tape bytes rs)) [ inl t ↦ rw (e, t) ((refl, refl), refl) | inr t ↦ rw (e, t) (tape-checked_keeps (checked_state layout s ws work) (rw (e, t) at h)) ]
        | inr e ↦ rw e ((refl, refl), refl)
      ]

  pub refused_call : (h : StateAndPool) (c : HostCall) → IsRefused layout h c → RefusedCall layout h c
  refused_call h (outside kind worker field value work) r =
      let k = outside_keeps h.state h.pool work (record_of kind worker field value) r in
      record { same = ap₂ (λ (s : State) (ws : List ℕ). record { state = s; pool = ws }) k.0 k.1; same-answers = refl }
  refused_call h (tape bytes work answers) r =
      let k = tape_keeps h.state h.pool work bytes answers r in
      record { same = ap₂ (λ (s : State) (ws : List ℕ). record { state = s; pool = ws }) k.0.0 k.0.1; same-answers = k.1 }

  -- a record that is no step is refused, whatever the state
  pub invalid_refused : (h : StateAndPool) (kind worker field value : ℕ) (work : List ℕ) → record_of kind worker field value ≡ None → IsRefused layout h (outside kind worker field value work)
  unfolding outside_on outside_with
  invalid_refused h kind worker field value work e = rw e (elim (decided (fits h.state)) [ inl f ↦ rw f (checked_low (checked_state layout h.state h.pool work)) | inr f ↦ rw f (omega arith) ])
    where
      checked_low : (k : Checked) → (words_in (outside_checked layout k h.state h.pool work None).result).0 < 100
      checked_low (Err NoRoom) = omega arith
      checked_low (Err CheckError.Unsound) = omega arith
      checked_low (Ok n) = omega arith

-- ---- the answer words past the last record's

put_past : (as' : List ℕ) (k m : ℕ) (a : Answer) → suc k < m → drop m (put_answer as' k a) ≡ drop m as'
put_past as' k m a h = drop-set-lt m (set as' k (answer_words a).0) (suc k) (answer_words a).1 h ∙ drop-set-lt m as' k (answer_words a).0 (omega arith)

-- as many answer words, and the same from place m on
abbrev Past : ℕ → List ℕ → List ℕ → Type 0
Past m as' bs = (length bs ≡ length as') × (drop m bs ≡ drop m as')

module _ (layout : Layout) where
  run_past : (ds : List Decoded) (c : Core) (as' : List ℕ) (k m : ℕ) → k + 2 * length ds ≤ m → Past m as' (run_on layout (records_result c as') k ds).answers
  unfolding run_on
  run_past [] c as' k m h = (refl, refl)
  run_past (d ∷ ds) c as' k m h =
      let a = (record_on layout c d).answer in
      let r = run_past ds (record_on layout c d).core _ (k + 2) m (omega arith) in
      (r.0 ∙ put_long as' _ a, r.1 ∙ put_past as' _ m a (omega arith))

  module _ (s : State) (ws work bytes rs : List ℕ) where
    tape-checked_past : (k : Checked) → Past (2 * (length bytes / 8)) rs (tape_checked layout k s ws work bytes rs).answers
    tape-checked_past (Err NoRoom) = (refl, refl)
    tape-checked_past (Err CheckError.Unsound) = (refl, refl)
    tape-checked_past (Ok n) = run_past (records_of bytes) (core_of s ws n) rs 0 (2 * (length bytes / 8)) (omega (arith, length_records (length bytes / 8) bytes 0))

    tape_on_past : Past (2 * (length bytes / 8)) rs (tape_on layout s ws work bytes rs).answers
    unfolding tape_on tape_with
    tape_on_past = elim (decided (fits s)) [
      | inl e ↦ elim (decided (unfit_tape bytes rs)) [ inl t ↦ rw (e, t) (refl, refl) | inr t ↦ rw (e, t) (tape-checked_past (checked_state layout s ws work)) ]
      | inr e ↦ rw e (refl, refl)
    ]

  pub tape_past : (h : StateAndPool) (bytes work answers : List ℕ) → SamePast layout h bytes work answers
  tape_past h bytes work answers = let p = tape_on_past h.state h.pool work bytes answers in record { same_length = p.0; past = p.1 }

-- ---- the work slice

-- no record is refused by 99, 4 or 5
after_check : (w : ℕ × ℕ) → refused_whole w ≡ false → before_check w.0 ≡ false
after_check w e =
    let x = neither (leb w.0 6) (eqb w.0 99) e in
    let more = leb-false w.0 6 x.0 in
    rw (x.1, ne_eqb w.0 4 (λ q. omega arith), ne_eqb w.0 5 (λ q. omega arith))

-- by the result r: as it was, or cleared
abbrev Cleared : State → List ℕ → ℕ → List ℕ → Type 0
Cleared s work r work' = work' ≡ cond (before_check r) work (cleared (numbers_of s).nodes work)

module _ (layout : Layout) where
  module _ (s : State) (ws work : List ℕ) where
    outside_checked_work : (k : Checked) (d : Decoded) → Cleared s work (words_in (outside_checked layout k s ws work d).result).0 (outside_checked layout k s ws work d).work
    outside_checked_work (Err NoRoom) d = refl
    outside_checked_work (Err CheckError.Unsound) d = refl
    outside_checked_work (Ok n) d =
        let a : Answer = (record_on layout (core_of s ws n) d).answer in
        let e = ap (λ (w : ℕ × ℕ). before_check w.0) (words_back (answer_words a) (words_low a)) ∙ after_check (answer_words a) (not_whole layout (core_of s ws n) d) in
        sym (ap (λ (b : Bool). cond b work (cleared (numbers_of s).nodes work)) e)

    outside_work : (d : Decoded) → Cleared s work (words_in (outside_on layout s ws work d).result).0 (outside_on layout s ws work d).work
    unfolding outside_on outside_with
    outside_work d = elim (decided (fits s)) [ inl e ↦ rw e (outside_checked_work (checked_state layout s ws work) d) | inr e ↦ rw e refl ]

    module _ (bytes rs : List ℕ) where
      tape-checked_work : (k : Checked) → Cleared s work (tape_checked layout k s ws work bytes rs).result (tape_checked layout k s ws work bytes rs).work
      tape-checked_work (Err NoRoom) = refl
      tape-checked_work (Err CheckError.Unsound) = refl
      tape-checked_work (Ok n) = refl

      tape_work : Cleared s work (tape_on layout s ws work bytes rs).result (tape_on layout s ws work bytes rs).work
      unfolding tape_on tape_with
      tape_work = elim (decided (fits s)) [
        | inl e ↦ elim (decided (unfit_tape bytes rs)) [ inl t ↦ rw (e, t) refl | inr t ↦ rw (e, t) (tape-checked_work (checked_state layout s ws work)) ]
        | inr e ↦ rw e refl
      ]

  pub work_after_lem : (h : StateAndPool) (c : HostCall) → WorkAfter layout h c
  work_after_lem h (outside kind worker field value work) = outside_work h.state h.pool work (record_of kind worker field value)
  work_after_lem h (tape bytes work answers) = tape_work h.state h.pool work bytes answers
