-- Saves and readings: their ways out, and what an accepted reading of a saved image gives.
use Rattle.image.specs.Image.{ImageCheck}
use Rattle.image.specs.declared.ImageError.TheVariants.{WrongLength, WrongCheck}
use Rattle.soundness.specs.Soundness.{Checked}
use Rattle.soundness.specs.declared.CheckError.{CheckError}
use Rattle.soundness.specs.declared.CheckError.TheVariants.{NoRoom}
use Rattle.std.specs.Prelude.{◌≡◌, ◌≢◌, ◌⊎◌, Bool, cond, ◌&&◌, List, [], ◌++◌, ℕ, ◌*◌, ◌≤◌, ◌<◌, take, drop, leb, Err, Ok}
use Rattle.std.proofs.Math.Path.{refl, sym, ap, subst}
use Rattle.std.proofs.Common.{◌∙◌, arith, length-append, length-drop, get_or-take}
use Rattle.std.proofs.Math.Logic.{inl, inr}
use Rattle.std.proofs.Math.Bool.{true, false}
use Rattle.std.proofs.Math.ListN.{length, get_or-append}
use Rattle.std.proofs.lemmas.List.{length-replicate}
use Rattle.std.proofs.Math.Seq.{take_at, drop_at, length-take-le}
use Rattle.std.proofs.Math.Dec.{eqb, ltb}
use borrow.Author.Tests.{eqb-true, eqb-false, eq-eqb, leb-true, le-leb, le-ltb, ltb-false}
use Rattle.words.specs.Tests.{decided, both, true≢false}
use Rattle.words.specs.Below.{Words, below-take, below-drop, below-append}
use Rattle.frames.specs.Widths.{max_places}
use Rattle.frames.specs.declared.Frame.{Frame}
use Rattle.frames.specs.Frames.{free_record}
use Rattle.soundness.specs.Soundness.{numbers_sound, sound, checked, cleared}
use Rattle.soundness.proofs.Theory.Sentences.{NumbersFacts, few_places, sound_facts}
use Rattle.image.specs.Widths.{version_step}
use Rattle.image.specs.Image.{Lengths, ZeroPast, image_check, nodes_in, places_in, pool_in, stored, IsRead}
use Rattle.image.proofs.Theory.Promises.{Says, sound_past, image_length, saved_front, saved_rest, says_what_was_written, parts_lengths, same_nodes, same_places, pool_length, saved_again}
use Rattle.semantics.proofs.Theory.Pools.{SameNodes}
use Rattle.semantics.specs.declared.Refusal.{Refusal}
use Rattle.semantics.specs.declared.Refusal.TheVariants.{Work, Blocks, BlockCheck}
use Rattle.semantics.specs.Answers.{refusal_number}
use Rattle.semantics.specs.Core.{Core}
use Rattle.semantics.specs.Entries.{State, fits, zeros, numbers_of, totals_of, state_of, is_sound, checked_state, outside_with, outside_on, tape_with, tape_on, unfit_tape}
use Rattle.semantics.specs.Images.{saved_image, saved_bytes, save_with, save_on, LoadResult, state_in, pool_with, records_zero, nodes_zero, load_refused, load_with, load_on}
use Rattle.semantics.specs.Calls.{HostCall, outside, tape, StateAndPool, after_call, exchanges_of, save_result}
use Rattle.semantics.specs.Demands.{AcceptedSave, RefusedLoad, AcceptedLoad, before_check, WorkAfterSave, WorkAfterLoad, StateWords}
use Rattle.semantics.specs.Promises.{Fits}
use Rattle.semantics.proofs.Theory.Pools.{Beyond}
use Rattle.semantics.proofs.Theory.Fitting.{fits_true, true_fits}
use Rattle.soundness.specs.Layout.{Layout}
use Rattle.semantics.proofs.Theory.Pools.{PoolLaws}

module _ (layout : Layout) where
  -- ---- a state that every step, tape and save refuses: a part has another length, or it is not sound

  pub data Refuses (h : StateAndPool) : Type 0 where
    unfit : fits h.state ≡ false → Refuses h
    unsound : is_sound layout h.state h.pool ≡ false → Refuses h

data NotSound (k : Checked) : Type 0 where
  no_room : k ≡ (Err NoRoom) → NotSound k
  found_unsound : k ≡ (Err CheckError.Unsound) → NotSound k

module _ (layout : Layout) where
  not_sound : (s : State) (ws work : List ℕ) → is_sound layout s ws ≡ false → NotSound (checked_state layout s ws work)
  unfolding checked
  not_sound s ws work e = elim (decided (leb (numbers_of s).nodes (length work))) [ inl l ↦ found_unsound (rw (l, e)) | inr l ↦ no_room (rw l) ]

  -- what a call leaves and tells
  abbrev NothingDone : StateAndPool → HostCall → Type 0
  NothingDone h k = (after_call layout h k ≡ h) × (exchanges_of layout h k ≡ [])

  pub refused_calls : (h : StateAndPool) (k : HostCall) → Refuses layout h → NothingDone h k
  unfolding outside_on outside_with tape_on tape_with
  refused_calls h (outside kind worker field value work) R = go (fits h.state) refl R
    where
      go : (b : Bool) → fits h.state ≡ b → Refuses layout h → NothingDone h (outside kind worker field value work)
      go false f r = rw f (refl, refl)
      go true f (unfit e) = absurd (true≢false (sym f ∙ e))
      go true f (unsound e) = elim (not_sound h.state h.pool work e) [ no_room q ↦ rw (f, q) (refl, refl) | found_unsound q ↦ rw (f, q) (refl, refl) ]
  refused_calls h (tape bytes work answers) R = go (fits h.state) refl R
    where
      go : (b : Bool) → fits h.state ≡ b → Refuses layout h → NothingDone h (tape bytes work answers)
      go false f r = rw f (refl, refl)
      go true f (unfit e) = absurd (true≢false (sym f ∙ e))
      go true f (unsound e) = elim (decided (unfit_tape bytes answers)) [
        | inl t ↦ rw (f, t) (refl, refl)
        | inr t ↦ elim (not_sound h.state h.pool work e) [ no_room q ↦ rw (f, t, q) (refl, refl) | found_unsound q ↦ rw (f, t, q) (refl, refl) ]
      ]

  pub refused_save : (h : StateAndPool) (work target : List ℕ) → Refuses layout h → eqb (save_result layout h work target).result 0 ≡ false
  unfolding save_on save_with
  refused_save h work target R = go (fits h.state) refl R
    where
      go : (b : Bool) → fits h.state ≡ b → Refuses layout h → eqb (save_result layout h work target).result 0 ≡ false
      go false f r = rw f refl
      go true f (unfit e) = absurd (true≢false (sym f ∙ e))
      go true f (unsound e) = elim (not_sound h.state h.pool work e) [ no_room q ↦ rw (f, q) refl | found_unsound q ↦ rw (f, q) refl ]

  -- ---- a save that is accepted

  -- the parts have their lengths, state and pool are sound, and the target is long enough
  pub record SaveTaken (h : StateAndPool) (work target : List ℕ) : Type 0 where
    pub parts : Fits h.state
    pub still : is_sound layout h.state h.pool ≡ true
    pub stores : (save_result layout h work target).target ≡ stored (saved_image layout h.state h.pool) target
    pub fits_in : saved_bytes layout h.state ≤ length target

  pub save_taken : (h : StateAndPool) (work target : List ℕ) → (save_result layout h work target).result ≡ 0 → SaveTaken h work target
  unfolding save_on save_with checked
  save_taken h work target e = go (fits h.state) refl
    where
      go : (b : Bool) → fits h.state ≡ b → SaveTaken h work target
      go false f = absurd (omega (arith, rw f at e))
      go true f = elim (decided (leb (numbers_of h.state).nodes (length work))) [
        | inr l ↦ absurd (omega (arith, rw (f, l) at e))
        | inl l ↦ elim (decided (is_sound layout h.state h.pool)) [
          | inr q ↦ absurd (omega (arith, rw (f, l, q) at e))
          | inl q ↦ elim (decided (ltb (length target) (saved_bytes layout h.state))) [
            | inl t ↦ absurd (omega (arith, rw (f, l, q, t) at e))
            | inr t ↦ record { parts = true_fits h.state f; still = q; stores = rw (f, l, q, t) refl; fits_in = ltb-false (length target) (saved_bytes layout h.state) t }
          ]
        ]
      ]

  -- the numbers of a sound state
  pub sound_numbers : (s : State) (ws : List ℕ) → is_sound layout s ws ≡ true → NumbersFacts layout (numbers_of s) s.frames ws
  sound_numbers s ws e = (sound_facts layout (numbers_of s) (totals_of s) s.deques s.frames ws e).numbers

  -- the nodes of a sound state are in the pool
  pub sound_room : (s : State) (ws : List ℕ) → is_sound layout s ws ≡ true → layout.words * (numbers_of s).nodes ≤ length ws
  sound_room s ws e = (sound_numbers s ws e).room

  -- its workers leave the version room in the image's first word
  pub sound_few : (s : State) (ws : List ℕ) → is_sound layout s ws ≡ true → (numbers_of s).workers < version_step
  sound_few s ws e = omega (arith, (sound_numbers s ws e).workers_le)

-- stored in the front of a slice that is long enough
stored_long : (new old : List ℕ) → length new ≤ length old → length (stored new old) ≡ length old
stored_long new old h = omega (arith, length-append new (drop (length new) old), length-drop (length new) old)

module _ (layout : Layout) where
  -- the image's parts
  lengths_of : (s : State) (ws : List ℕ) → Fits s → is_sound layout s ws ≡ true → Lengths s.numbers s.deques s.frames
  lengths_of s ws F e = let N = sound_numbers layout s ws e in record { numbers = F.numbers; deques = F.deques; frames = N.table; most = few_places N }

module _ (layout : Layout) (pools : PoolLaws layout) where
  -- past the frames of its deques there are zeros
  zero_past_lem : (s : State) (ws : List ℕ) → is_sound layout s ws ≡ true → ZeroPast (numbers_of s).places s.deques
  zero_past_lem s ws e =
      let S = sound_facts layout (numbers_of s) (totals_of s) s.deques s.frames ws e in
      subst (λ (k : ℕ). ZeroPast k s.deques) S.numbers.table (sound_past layout pools.version_le S.frames)

  pub accepted_save : (h : StateAndPool) (work target : List ℕ) → (save_result layout h work target).result ≡ 0 → AcceptedSave layout h work target
  accepted_save h work target e =
      let T = save_taken layout h work target e in
      let s = h.state in
      let L = lengths_of layout s h.pool T.parts T.still in
      let room = sound_room layout s h.pool T.still in
      record {
        image = ap (take (saved_bytes layout s)) T.stores ∙ saved_front layout pools.version_le s.numbers s.deques s.frames h.pool L room target;
        same_length = ap length T.stores ∙ stored_long (saved_image layout s h.pool) target (omega (arith, T.fits_in, image_length layout pools.version_le s.numbers s.deques s.frames h.pool L room));
        past = ap (drop (saved_bytes layout s)) T.stores ∙ saved_rest layout pools.version_le s.numbers s.deques s.frames h.pool L room target;
      }

module _ (layout : Layout) where
  -- ---- a reading that is accepted

  pub record LoadTaken (s : State) (ws work image : List ℕ) : Type 0 where
    pub good : image_check layout image ≡ (Ok tt)
    pub as_many : length s.frames ≡ places_in image
    pub sound_read : is_sound layout (state_in layout image) (pool_with layout ws image) ≡ true
    pub is : load_on layout s ws work image ≡ record { state = state_in layout image; pool = pool_with layout ws image; work = cleared (nodes_in image) work; result = 0 }

  -- the ways out
  data LoadCase (s : State) (ws work image : List ℕ) : Type 0 where
    by_lengths : fits s ≡ false → load_on layout s ws work image ≡ record { state = s; pool = ws; work = work; result = 99 } → LoadCase s ws work image
    by_blocks : load_on layout s ws work image ≡ load_refused s.frames ws work Blocks → LoadCase s ws work image
    by_check : load_on layout s ws work image ≡ load_refused s.frames ws work BlockCheck → LoadCase s ws work image
    by_work : load_on layout s ws work image ≡ load_refused s.frames ws work Work → LoadCase s ws work image
    by_soundness : load_on layout s ws work image ≡ load_refused (records_zero s.frames) (nodes_zero layout ws) (cleared (nodes_in image) work) Refusal.Unsound → LoadCase s ws work image
    taken : LoadTaken s ws work image → LoadCase s ws work image

  load_cases : (s : State) (ws work image : List ℕ) → LoadCase s ws work image
  unfolding load_on load_with
  load_cases s ws work image = go (fits s) refl (image_check layout image) refl
    where
      go : (b : Bool) → fits s ≡ b → (k : ImageCheck) → image_check layout image ≡ k → LoadCase s ws work image
      go false f k e = by_lengths f (rw f refl)
      go true f (Err WrongLength) e = by_blocks (rw (f, e) refl)
      go true f (Err WrongCheck) e = by_check (rw (f, e) refl)
      go true f (Ok _) e = elim (decided (ltb (length work) (nodes_in image))) [
        | inl l ↦ by_work (rw (f, e, l) refl)
        | inr l ↦ elim (decided (eqb (length s.frames) (places_in image) && is_sound layout (state_in layout image) (pool_with layout ws image))) [
          | inl q ↦ (
              let b = both (eqb (length s.frames) (places_in image)) (is_sound layout (state_in layout image) (pool_with layout ws image)) q in
              taken (record { good = e; as_many = eqb-true (length s.frames) (places_in image) b.0; sound_read = b.1; is = rw (f, e, l, q) refl }))
          | inr q ↦ by_soundness (rw (f, e, l, q) refl)
        ]
      ]

  pub load_taken : (s : State) (ws work image : List ℕ) → (load_on layout s ws work image).result ≡ 0 → LoadTaken s ws work image
  load_taken s ws work image e = elim (load_cases s ws work image) [
    | by_lengths f q ↦ absurd (omega (arith, e, ap (λ (o : LoadResult). o.result) q))
    | by_blocks q ↦ absurd (omega (arith, e, ap (λ (o : LoadResult). o.result) q))
    | by_check q ↦ absurd (omega (arith, e, ap (λ (o : LoadResult). o.result) q))
    | by_work q ↦ absurd (omega (arith, e, ap (λ (o : LoadResult). o.result) q))
    | by_soundness q ↦ absurd (omega (arith, e, ap (λ (o : LoadResult). o.result) q))
    | taken T ↦ T
  ]

abbrev result_of_lem : {a b : LoadResult} → a ≡ b → a.result ≡ b.result
result_of_lem q = ap (λ (o : LoadResult). o.result) q

module _ (layout : Layout) where
  -- refused before anything is read
  early : (s : State) (ws work image : List ℕ) (r : Refusal) → refusal_number r < 99 → refusal_number r ≢ 6 → load_on layout s ws work image ≡ load_refused s.frames ws work r → RefusedLoad layout s ws work image
  early s ws work image r low other q = record {
    state = λ t. absurd (omega (arith, t, result_of_lem q, low));
    zero = λ t u. ap (λ (o : LoadResult). o.state) q;
    zero_table = λ t. absurd (other (sym (result_of_lem q) ∙ t));
    pool = λ t. ap (λ (o : LoadResult). o.pool) q;
    zero_nodes = λ t. absurd (other (sym (result_of_lem q) ∙ t));
  }

  pub refused_load : (s : State) (ws work image : List ℕ) → 0 < (load_on layout s ws work image).result → RefusedLoad layout s ws work image
  refused_load s ws work image h = elim (load_cases layout s ws work image) [
    | by_lengths f q ↦ record {
      state = λ t. ap (λ (o : LoadResult). o.state) q;
      zero = λ t u. absurd (omega (arith, t, result_of_lem q));
      zero_table = λ t. absurd (omega (arith, t, result_of_lem q));
      pool = λ t. ap (λ (o : LoadResult). o.pool) q;
      zero_nodes = λ t. absurd (omega (arith, t, result_of_lem q));
    }
    | by_blocks q ↦ early s ws work image Blocks (omega arith) (λ t. omega (arith, t)) q
    | by_check q ↦ early s ws work image BlockCheck (omega arith) (λ t. omega (arith, t)) q
    | by_work q ↦ early s ws work image Work (omega arith) (λ t. omega (arith, t)) q
    | by_soundness q ↦ record {
      state = λ t. absurd (omega (arith, t, result_of_lem q));
      zero = λ t u. absurd (u (result_of_lem q));
      zero_table = λ t. ap (λ (o : LoadResult). o.state) q;
      pool = λ t. absurd (t (result_of_lem q));
      zero_nodes = λ t. ap (λ (o : LoadResult). o.pool) q;
    }
    | taken T ↦ absurd (omega (arith, h, result_of_lem T.is))
  ]

  pub work_after_load : (s : State) (ws work image : List ℕ) → WorkAfterLoad layout s ws work image
  work_after_load s ws work image = elim (load_cases layout s ws work image) [
    | by_lengths f q ↦ rw q refl
    | by_blocks q ↦ rw q refl
    | by_check q ↦ rw q refl
    | by_work q ↦ rw q refl
    | by_soundness q ↦ rw q refl
    | taken T ↦ rw T.is refl
  ]

  -- a state of zeros has no worker
  zeros_unsound : (fs : List Frame) (ws : List ℕ) → is_sound layout (zeros fs) ws ≡ false
  unfolding sound numbers_sound
  zeros_unsound fs ws = refl

  -- a reading that is refused leaves no state
  abbrev left_by : State → List ℕ → List ℕ → List ℕ → StateAndPool
  left_by s ws work image = record { state = (load_on layout s ws work image).state; pool = (load_on layout s ws work image).pool }

  no_state : (s : State) (ws work image : List ℕ) (fs' : List Frame) (ws' work' : List ℕ) (r : Refusal) → load_on layout s ws work image ≡ load_refused fs' ws' work' r → Refuses layout (left_by s ws work image)
  no_state s ws work image fs' ws' work' r q = subst (Refuses layout) (ap (λ (o : LoadResult). record { state = o.state; pool = o.pool }) (sym q)) (unsound (zeros_unsound fs' ws'))

  pub load_leaves-none : (s : State) (ws work image : List ℕ) → eqb (load_on layout s ws work image).result 0 ≡ false → Refuses layout (left_by s ws work image)
  load_leaves-none s ws work image e = elim (load_cases layout s ws work image) [
    | by_lengths f q ↦ subst (Refuses layout) (ap (λ (o : LoadResult). record { state = o.state; pool = o.pool }) (sym q)) (unfit f)
    | by_blocks q ↦ no_state s ws work image s.frames ws work Blocks q
    | by_check q ↦ no_state s ws work image s.frames ws work BlockCheck q
    | by_work q ↦ no_state s ws work image s.frames ws work Work q
    | by_soundness q ↦ no_state s ws work image (records_zero s.frames) (nodes_zero layout ws) (cleared (nodes_in image) work) Refusal.Unsound q
    | taken T ↦ absurd (eqb-false (load_on layout s ws work image).result 0 e (result_of_lem T.is))
  ]

module _ (layout : Layout) (pools : PoolLaws layout) where
  -- the places that were read are 256 at most
  load_few : (s : State) (ws work image : List ℕ) → LoadTaken layout s ws work image → places_in image ≤ max_places
  load_few s ws work image T = omega (arith, (sound_numbers layout (state_in layout image) (pool_with layout ws image) T.sound_read).places_le, same_places layout pools.version_le image T.good)

  -- parts that had their lengths have them after it
  pub load_fits : (s : State) (ws work image : List ℕ) → Fits s → Fits (load_on layout s ws work image).state
  load_fits s ws work image F = elim (load_cases layout s ws work image) [
    | by_lengths f q ↦ absurd (true≢false (sym (fits_true s F) ∙ f))
    | by_blocks q ↦ zeroed Blocks q
    | by_check q ↦ zeroed BlockCheck q
    | by_work q ↦ zeroed Work q
    | by_soundness q ↦ zeroed Refusal.Unsound q
    | taken T ↦ (
        let L = parts_lengths layout pools.version_le image T.good (load_few s ws work image T) in
        subst Fits (ap (λ (o : LoadResult). o.state) (sym T.is)) (record { numbers = L.numbers; deques = L.deques }))
  ]
    where
      zeroed : {fs' : List Frame} {ws' work' : List ℕ} (r : Refusal) → load_on layout s ws work image ≡ load_refused fs' ws' work' r → Fits (load_on layout s ws work image).state
      zeroed r q = subst Fits (ap (λ (o : LoadResult). o.state) (sym q)) (record { numbers = refl; deques = refl })

  -- R-6: and a table of as many places
  pub load_places : (s : State) (ws work image : List ℕ) → length (load_on layout s ws work image).state.frames ≡ length s.frames
  load_places s ws work image = elim (load_cases layout s ws work image) [
    | by_lengths f q ↦ rw q refl
    | by_blocks q ↦ rw q refl
    | by_check q ↦ rw q refl
    | by_work q ↦ rw q refl
    | by_soundness q ↦ rw q (length-replicate {A = Frame} (length s.frames) (free_record 0))
    | taken T ↦ ap (λ (o : LoadResult). length o.state.frames) T.is ∙ (parts_lengths layout pools.version_le image T.good (load_few s ws work image T)).frames ∙ same_places layout pools.version_le image T.good ∙ sym T.as_many
  ]

  -- the pool holds the nodes that were read, and has them in its front
  module _ (s : State) (ws work image : List ℕ) (T : LoadTaken layout s ws work image) where
    pub load_room : layout.words * nodes_in image ≤ length ws
    load_room = elim (decided (leb (layout.words * nodes_in image) (length ws))) [
      | inl l ↦ leb-true (layout.words * nodes_in image) (length ws) l
      | inr l ↦ (
          let pool : pool_with layout ws image ≡ ws = ap (λ (b : Bool). cond b (stored (pool_in layout image) ws) ws) l in
          omega (arith, sound_room layout (state_in layout image) (pool_with layout ws image) T.sound_read, ap length pool, ap (λ (m : ℕ). layout.words * m) (same_nodes layout pools.version_le image T.good)))
    ]

    pub load_pool : (load_on layout s ws work image).pool ≡ stored (pool_in layout image) ws
    load_pool = ap (λ (o : LoadResult). o.pool) T.is ∙ ap (λ (b : Bool). cond b (stored (pool_in layout image) ws) ws) (le-leb (layout.words * nodes_in image) (length ws) load_room)

  pub accepted_load : (s : State) (ws work image : List ℕ) → (load_on layout s ws work image).result ≡ 0 → AcceptedLoad layout s ws work image
  accepted_load s ws work image e =
      let T = load_taken layout s ws work image e in
      let state : (load_on layout s ws work image).state ≡ state_in layout image = ap (λ (o : LoadResult). o.state) T.is in
      let pool = load_pool s ws work image T in
      let read : IsRead layout image (state_in layout image).numbers (state_in layout image).deques (state_in layout image).frames ws (load_on layout s ws work image).pool = record { numbers = refl; deques = refl; frames = refl; pool = pool } in
      let long = pool_length layout pools.version_le image T.good in
      record {
        state = state;
        sound = ap (is_sound layout (state_in layout image)) (ap (λ (o : LoadResult). o.pool) T.is) ∙ T.sound_read;
        again = λ h. ap (λ (t : State). saved_image layout t (load_on layout s ws work image).pool) state ∙ saved_again layout pools.version_le image T.good (load_few s ws work image T) h _ _ _ ws (load_on layout s ws work image).pool read;
        same_places = load_places s ws work image;
        same_length = ap length pool ∙ stored_long (pool_in layout image) ws (omega (arith, long, load_room s ws work image T));
        beyond = ap (drop (layout.words * nodes_in image)) pool ∙ drop_at (pool_in layout image) (drop (length (pool_in layout image)) ws) (layout.words * nodes_in image) long ∙ ap (λ (k : ℕ). drop k ws) long;
      }

module _ (layout : Layout) where
  -- ---- the work slice after a save; a refused save leaves the target

  -- the ways out
  data SaveCase (h : StateAndPool) (work target : List ℕ) : Type 0 where
    before : (save_result layout h work target).work ≡ work → (save_result layout h work target).target ≡ target → before_check (save_result layout h work target).result ≡ true → SaveCase h work target
    after : (save_result layout h work target).work ≡ cleared (numbers_of h.state).nodes work → before_check (save_result layout h work target).result ≡ false
        → (((save_result layout h work target).target ≡ target) ⊎ ((save_result layout h work target).result ≡ 0)) → SaveCase h work target

  save_cases : (h : StateAndPool) (work target : List ℕ) → SaveCase h work target
  unfolding save_on save_with checked
  save_cases h work target = go (fits h.state) refl
    where
      go : (b : Bool) → fits h.state ≡ b → SaveCase h work target
      go false f = before (rw f refl) (rw f refl) (rw f refl)
      go true f = elim (decided (leb (numbers_of h.state).nodes (length work))) [
        | inr l ↦ before (rw (f, l) refl) (rw (f, l) refl) (rw (f, l) refl)
        | inl l ↦ elim (decided (is_sound layout h.state h.pool)) [
          | inr q ↦ after (rw (f, l, q) refl) (rw (f, l, q) refl) (inl (rw (f, l, q) refl))
          | inl q ↦ elim (decided (ltb (length target) (saved_bytes layout h.state))) [
            | inl t ↦ after (rw (f, l, q, t) refl) (rw (f, l, q, t) refl) (inl (rw (f, l, q, t) refl))
            | inr t ↦ after (rw (f, l, q, t) refl) (rw (f, l, q, t) refl) (inr (rw (f, l, q, t) refl))
          ]
        ]
      ]

  pub work_after_save : (h : StateAndPool) (work target : List ℕ) → WorkAfterSave layout h work target
  work_after_save h work target = elim (save_cases h work target) [
    | before w t b ↦ w ∙ sym (ap (λ (q : Bool). cond q work (cleared (numbers_of h.state).nodes work)) b)
    | after w b t ↦ w ∙ sym (ap (λ (q : Bool). cond q work (cleared (numbers_of h.state).nodes work)) b)
  ]

  pub save_refused_target : (h : StateAndPool) (work target : List ℕ) → 0 < (save_result layout h work target).result → (save_result layout h work target).target ≡ target
  save_refused_target h work target p = elim (save_cases h work target) [
    | before w t b ↦ t
    | after w b (inl t) ↦ t
    | after w b (inr z) ↦ absurd (omega (arith, p, z))
  ]

module _ (layout : Layout) (pools : PoolLaws layout) where
  -- ---- an image that was saved, read into another pool

  -- the image says the core's state and nodes
  abbrev pub SaysCore : List ℕ → Core → Type 0
  SaysCore image c = Says layout pools.version_le image (state_of c).numbers c.deques c.frames c.pool

  -- so of a sound state of words
  pub state_says : (s : State) (ws : List ℕ) → StateWords s ws → Fits s → is_sound layout s ws ≡ true → Says layout pools.version_le (saved_image layout s ws) s.numbers s.deques s.frames ws
  state_says s ws W F e =
      says_what_was_written layout pools.version_le s.numbers s.deques s.frames ws (lengths_of layout s ws F e) (sound_room layout s ws e)
      (record { numbers = W.numbers; deques = W.deques; frames = W.frames; pool = W.pool }) (sound_few layout s ws e) (zero_past_lem layout pools s ws e)

  pub saved_says : (c : Core) → StateWords (state_of c) c.pool → Fits (state_of c) → is_sound layout (state_of c) c.pool ≡ true → SaysCore (saved_image layout (state_of c) c.pool) c
  saved_says c W F e = state_says (state_of c) c.pool W F e

  -- parts that fit, with a table of as many places, and a work slice that is long enough: nothing is refused, if state and nodes are sound there
  pub load_takes : (image : List ℕ) (c : Core) → SaysCore image c → (s : State) (ws work : List ℕ) → fits s ≡ true → length s.frames ≡ (numbers_of (state_of c)).places → c.head.numbers.nodes ≤ length work → is_sound layout (state_in layout image) (pool_with layout ws image) ≡ true → LoadTaken layout s ws work image
  unfolding load_on load_with
  load_takes image c Y s ws work f as_many long q =
      let k = eq-eqb (length s.frames) (places_in image) (as_many ∙ sym Y.places) in
      let l : ltb (length work) (nodes_in image) ≡ false = le-ltb (length work) (nodes_in image) (omega (arith, long, Y.nodes)) in
      record { good = Y.good; as_many = as_many ∙ sym Y.places; sound_read = q; is = rw (f, Y.good, l, k, q) refl }

  -- the lent pool with the saved nodes in its front
  pub pool_with_lem : (image : List ℕ) (c : Core) → SaysCore image c → layout.words * c.head.numbers.nodes ≤ length c.pool → (ws : List ℕ) → layout.words * c.head.numbers.nodes ≤ length ws
      → pool_with layout ws image ≡ take (layout.words * c.head.numbers.nodes) c.pool ++ drop (layout.words * c.head.numbers.nodes) ws
  pool_with_lem image c Y room ws held =
      ap (λ (b : Bool). cond b (stored (pool_in layout image) ws) ws) (le-leb (layout.words * nodes_in image) (length ws) (omega (arith, held, ap (λ (m : ℕ). layout.words * m) Y.nodes)))
      ∙ ap (λ (l : List ℕ). stored l ws) Y.pool
      ∙ ap (λ (k : ℕ). take (layout.words * c.head.numbers.nodes) c.pool ++ drop k ws) (length-take-le (layout.words * c.head.numbers.nodes) c.pool room)

  -- the same nodes in another pool
  pub front_same : (N : ℕ) (ws₀ ws : List ℕ) → layout.words * N ≤ length ws₀ → layout.words * N ≤ length ws → SameNodes layout N ws₀ (take (layout.words * N) ws₀ ++ drop (layout.words * N) ws)
  front_same N ws₀ ws room held =
      let front = length-take-le (layout.words * N) ws₀ room in
      record {
        room = omega (arith, length-append (take (layout.words * N) ws₀) (drop (layout.words * N) ws), front);
        same = λ i b. get_or-append (take (layout.words * N) ws₀) (drop (layout.words * N) ws) 0 i (omega (arith, b, front)) ∙ get_or-take (layout.words * N) ws₀ i 0 b;
      }

  module _ (image : List ℕ) (c : Core) (Y : SaysCore image c) (room : layout.words * c.head.numbers.nodes ≤ length c.pool) (s : State) (ws work : List ℕ) (T : LoadTaken layout s ws work image) where
    W : ℕ
    W = layout.words * c.head.numbers.nodes

    pub loaded_state : (load_on layout s ws work image).state ≡ state_of c
    loaded_state = ap (λ (o : LoadResult). o.state) T.is ∙ (λ i. record { numbers = Y.numbers i; deques = Y.deques i; frames = Y.frames i })

    front : length (take W c.pool) ≡ W
    unfolding W
    front = length-take-le (layout.words * c.head.numbers.nodes) c.pool room

    held : W ≤ length ws
    unfolding W
    held = omega (arith, load_room layout pools s ws work image T, ap (λ (m : ℕ). layout.words * m) Y.nodes)

    -- the saved nodes, in the front of the lent pool
    loaded_pool : (load_on layout s ws work image).pool ≡ take W c.pool ++ drop W ws
    unfolding W
    loaded_pool = ap (λ (o : LoadResult). o.pool) T.is ∙ pool_with_lem image c Y room ws held

    long : length (take W c.pool ++ drop W ws) ≡ length ws
    long = omega (arith, length-append (take W c.pool) (drop W ws), front, length-drop W ws, held)

    pub loaded_front : take (layout.words * c.head.numbers.nodes) (load_on layout s ws work image).pool ≡ take (layout.words * c.head.numbers.nodes) c.pool
    unfolding W
    loaded_front = ap (take W) loaded_pool ∙ take_at (take W c.pool) (drop W ws) W front

    pub loaded_nodes : SameNodes layout c.head.numbers.nodes c.pool (load_on layout s ws work image).pool
    unfolding W
    loaded_nodes = subst (SameNodes layout c.head.numbers.nodes c.pool) (sym loaded_pool) (front_same c.head.numbers.nodes c.pool ws room held)

    pub loaded_words : Words c.pool → Words ws → Words (load_on layout s ws work image).pool
    loaded_words h k =
        subst Words (sym loaded_pool) (below-append 4294967296 (take W c.pool) (drop W ws) (below-take 4294967296 W c.pool (omega arith) h) (below-drop 4294967296 W ws k))

    pub loaded_beyond : Beyond layout c.head.numbers.nodes ws (load_on layout s ws work image).pool
    unfolding W
    loaded_beyond = (ap length loaded_pool ∙ long, ap (drop W) loaded_pool ∙ drop_at (take W c.pool) (drop W ws) W front)
