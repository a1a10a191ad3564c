-- R-9: a run in the new layout and one in the old, with the same calls: equal exchanges and states, and pools that match, at each image that is kept too.
-- r₂ is the run in the new layout, r₄ the one in the old.
use Rattle.std.specs.Prelude.{◌≡◌, refl, Bool, true, false, cond, List, [], ◌∷◌, ◌++◌, ℕ, zero, suc, ◌*◌, ◌≤◌, length, take, drop, eqb, ltb}
use Rattle.std.proofs.Common.{sym, ap, ap₂, ◌∙◌, subst, arith, eqb-true, ltb-true, ltb-false}
use Rattle.std.proofs.Math.Logic.{inl, inr}
use Rattle.words.specs.Tests.{decided, true≢false}
use Rattle.words.specs.Below.{Words, below-take, below-drop, below-append}
use Rattle.soundness.specs.Layout.{Layout, four_words, two_words}
use Rattle.image.specs.Image.{image_check, wrong_length, pool_in}
use Rattle.image.proofs.Theory.Promises.{Says}
use Rattle.model.specs.Record.{record_of}
use Rattle.semantics.specs.Answers.{words_in}
use Rattle.semantics.specs.Entries.{State, StartResult, fits, numbers_of, whole_nodes, outside_on, records_of, tape_on}
use Rattle.semantics.specs.Images.{saved_bytes, LoadResult, load_with, load_on}
use Rattle.semantics.specs.Calls.{Start, start_result, HostCall, outside, tape, StateAndPool, after_start, after_call, Exchange, refused_whole, exchanges_from, exchanges_of, Saved, Run, Call, call, save, load, begun, image_at, save_result, into_table, load_result, images_after, run_after, run_of}
use Rattle.semantics.specs.Demands.{StateWords, StartWords, HostWords, CallWords, AllCallWords}
use Rattle.semantics.specs.Matching.{SoundMatch, AsManyNodes, SameOutside, SameTape, SavedAs}
use Rattle.semantics.specs.ConvertDemands.{SameCall, SameCalls, in_pool}
use Rattle.semantics.proofs.Theory.Pools.{PoolLaws}
use Rattle.semantics.proofs.Theory.FourPools.{four_pools}
use Rattle.semantics.proofs.Theory.TwoPools.{two_pools}
use Rattle.semantics.proofs.Theory.AllWords.{started_words, call_words}
use Rattle.semantics.proofs.Theory.Images.{Refuses, refused_calls, refused_save, save_taken, load_taken, load_pool, load_leaves-none}
use Rattle.semantics.proofs.Theory.SoundRuns.{call_nodes}
use Rattle.semantics.proofs.Theory.Starts.{started_fit}
use Rattle.semantics.proofs.Theory.MatchingCalls.{starts_match, steps_match, tapes_match}
use Rattle.semantics.proofs.Theory.MatchingImages.{saves_match, image_says, loads_match}

-- ---- the relation

-- a sound state of words with N nodes, in pools that match
pub record Alike (N : ℕ) (s : State) (ws₂ ws₄ : List ℕ) : Type 0 where
  pub match : SoundMatch s ws₂ ws₄
  pub words : StateWords s ws₂
  pub words₄ : Words ws₄
  pub nodes : (numbers_of s).nodes ≡ N

pub old_words : {N : ℕ} {s : State} {ws₂ ws₄ : List ℕ} → Alike N s ws₂ ws₄ → StateWords s ws₄
old_words A = record { numbers = A.words.numbers; deques = A.words.deques; frames = A.words.frames; pool = A.words₄ }

-- images that were saved of such a state
pub record AlikeSaved (N : ℕ) (v₂ v₄ : Saved) : Type 0 where
  pub state : State
  pub pool₂ : List ℕ
  pub pool₄ : List ℕ
  pub alike : Alike N state pool₂ pool₄
  pub saved₂ : SavedAs two_words state pool₂ v₂.bytes
  pub saved₄ : SavedAs four_words state pool₄ v₄.bytes
  pub exchanges : v₂.past.exchanges ≡ v₄.past.exchanges

abbrev pub AllSaved : ℕ → List Saved → List Saved → Type 0
AllSaved N [] [] = Unit {0}
AllSaved N [] (v ∷ vs) = ⊥
AllSaved N (v ∷ vs) [] = ⊥
AllSaved N (v₂ ∷ vs₂) (v₄ ∷ vs₄) = AlikeSaved N v₂ v₄ × AllSaved N vs₂ vs₄

pub record AlikeRuns (N : ℕ) (r₂ r₄ : Run) : Type 0 where
  pub exchanges : r₂.past.exchanges ≡ r₄.past.exchanges
  pub stateless : r₂.stateless ≡ r₄.stateless
  pub state : r₂.now.state ≡ r₄.now.state
  pub standing : r₂.stateless ≡ false → Alike N r₂.now.state r₂.now.pool r₄.now.pool
  pub none : r₂.stateless ≡ true → Refuses two_words r₂.now × Refuses four_words r₄.now
  pub images : AllSaved N r₂.images r₄.images

-- ---- a step or a tape

-- what it leaves and tells
record CallAlike (k : HostCall) (h₂ h₄ : StateAndPool) : Type 0 where
  state : (after_call two_words h₂ k).state ≡ (after_call four_words h₄ k).state
  exchanges : exchanges_of two_words h₂ k ≡ exchanges_of four_words h₄ k
  match : SoundMatch (after_call two_words h₂ k).state (after_call two_words h₂ k).pool (after_call four_words h₄ k).pool

call_match : (k : HostCall) (s : State) (ws₂ ws₄ : List ℕ) → SoundMatch s ws₂ ws₄ → CallAlike k (record { state = s; pool = ws₂ }) (record { state = s; pool = ws₄ })
call_match (outside kind worker field value work) s ws₂ ws₄ S =
    let d = record_of kind worker field value in
    let O : SameOutside (outside_on two_words s ws₂ work d) (outside_on four_words s ws₄ work d) = steps_match s ws₂ ws₄ work d S in
    record { state = O.state; exchanges = ap (λ (x : ℕ). cond (refused_whole (words_in x)) [] ((d, words_in x) ∷ [])) O.result; match = O.after }
call_match (tape bytes work answers) s ws₂ ws₄ S =
    let O : SameTape (tape_on two_words s ws₂ work bytes answers) (tape_on four_words s ws₄ work bytes answers) = tapes_match s ws₂ ws₄ work bytes answers S in
    record { state = O.state; exchanges = ap₂ (λ (x : ℕ) (as' : List ℕ). cond (eqb x 0) (exchanges_from as' 0 (records_of bytes)) []) O.result O.answers; match = O.after }

module _ (N : ℕ) where
  -- of runs that have a state
  call_standing : (k : HostCall) (r₂ r₄ : Run) → HostWords k → AlikeRuns N r₂ r₄ → r₂.stateless ≡ false → AlikeRuns N (run_after two_words r₂ (call k)) (run_after four_words r₄ (call k))
  call_standing k r₂ r₄ w A e =
      let S = A.standing e in
      let C : CallAlike k r₂.now r₄.now =
      subst (λ (t : State). CallAlike k r₂.now (record { state = t; pool = r₄.now.pool })) A.state (call_match k r₂.now.state r₂.now.pool r₄.now.pool S.match) in
      let words₄ : StateWords r₄.now.state r₄.now.pool = subst (λ (t : State). StateWords t r₄.now.pool) A.state (old_words S) in
      record {
        exchanges = ap₂ (λ (es es' : List Exchange). es ++ es') A.exchanges C.exchanges;
        stateless = A.stateless;
        state = C.state;
        standing = λ q. record {
          match = C.match;
          words = call_words two_words two_pools r₂.now k S.words w;
          words₄ = (call_words four_words four_pools r₄.now k words₄ w).pool;
          nodes = call_nodes two_words two_pools r₂.now k S.match.two_sound ∙ S.nodes;
        };
        none = λ q. absurd (true≢false (sym q ∙ e));
        images = A.images;
      }

  -- of runs that have none: nothing is done
  call_none : (k : HostCall) (r₂ r₄ : Run) → AlikeRuns N r₂ r₄ → r₂.stateless ≡ true → AlikeRuns N (run_after two_words r₂ (call k)) (run_after four_words r₄ (call k))
  call_none k r₂ r₄ A e =
      let R = A.none e in
      let d₂ = refused_calls two_words r₂.now k R.0 in
      let d₄ = refused_calls four_words r₄.now k R.1 in
      record {
        exchanges = ap₂ (λ (es es' : List Exchange). es ++ es') A.exchanges (d₂.1 ∙ sym d₄.1);
        stateless = A.stateless;
        state = ap (λ (h : StateAndPool). h.state) d₂.0 ∙ A.state ∙ sym (ap (λ (h : StateAndPool). h.state) d₄.0);
        standing = λ q. absurd (true≢false (sym e ∙ q));
        none = λ q. (subst (Refuses two_words) (sym d₂.0) R.0, subst (Refuses four_words) (sym d₄.0) R.1);
        images = A.images;
      }

  alike_call : (k : HostCall) (r₂ r₄ : Run) → HostWords k → AlikeRuns N r₂ r₄ → AlikeRuns N (run_after two_words r₂ (call k)) (run_after four_words r₄ (call k))
  alike_call k r₂ r₄ w A = elim (decided r₂.stateless) [ inl e ↦ call_none k r₂ r₄ A e | inr e ↦ call_standing k r₂ r₄ w A e ]

-- ---- a save

-- into a target that is too short
short_target : (L : Layout) (h : StateAndPool) (work target : List ℕ) → ltb (length target) (saved_bytes L h.state) ≡ true → eqb (save_result L h work target).result 0 ≡ false
short_target L h work target t = elim (decided (eqb (save_result L h work target).result 0)) [
  | inr e ↦ e
  | inl e ↦ absurd (omega (arith, (save_taken L h work target (eqb-true (save_result L h work target).result 0 e)).fits_in, ltb-true (length target) (saved_bytes L h.state) t))
]

module _ (N : ℕ) (r₂ r₄ : Run) (A : AlikeRuns N r₂ r₄) (work target₂ target₄ : List ℕ) where
  abbrev accepted₂ : Bool
  accepted₂ = eqb (save_result two_words r₂.now work target₂).result 0

  abbrev accepted₄ : Bool
  accepted₄ = eqb (save_result four_words r₄.now work target₄).result 0

  -- both are accepted, or neither
  same_save : ltb (length target₂) (saved_bytes two_words r₂.now.state) ≡ ltb (length target₄) (saved_bytes four_words r₄.now.state) → accepted₂ ≡ accepted₄
  same_save m = elim (decided r₂.stateless) [
    | inl e ↦ refused_save two_words r₂.now work target₂ (A.none e).0 ∙ sym (refused_save four_words r₄.now work target₄ (A.none e).1)
    | inr e ↦ elim (decided (ltb (length target₂) (saved_bytes two_words r₂.now.state))) [
      | inl t ↦ short_target two_words r₂.now work target₂ t ∙ sym (short_target four_words r₄.now work target₄ (sym m ∙ t))
      | inr t ↦ (
          let S = saves_match r₂.now.state r₂.now.pool r₄.now.pool work target₂ target₄ (A.standing e).match in
          let long₄ = ltb-false (length target₄) (saved_bytes four_words r₄.now.state) (sym m ∙ t) in
          let result = S.result (ltb-false (length target₂) (saved_bytes two_words r₂.now.state) t) (subst (λ (s : State). saved_bytes four_words s ≤ length target₄) (sym A.state) long₄) in
          ap (λ (x : ℕ). eqb x 0) result ∙ ap (λ (s : State). eqb (save_result four_words (record { state = s; pool = r₄.now.pool }) work target₄).result 0) A.state)
    ]
  ]

  -- what accepted saves have written
  module _ (e₂ : accepted₂ ≡ true) (e₄ : accepted₄ ≡ true) where
    abbrev new₂ : Saved
    new₂ = record { bytes = take (saved_bytes two_words r₂.now.state) (save_result two_words r₂.now work target₂).target; past = r₂.past }

    abbrev new₄ : Saved
    new₄ = record { bytes = take (saved_bytes four_words r₄.now.state) (save_result four_words r₄.now work target₄).target; past = r₄.past }

    saved_new : r₂.stateless ≡ false → AlikeSaved N new₂ new₄
    saved_new e = record {
      state = r₂.now.state;
      pool₂ = r₂.now.pool;
      pool₄ = r₄.now.pool;
      alike = A.standing e;
      saved₂ = record { work = work; target = target₂; accepted = eqb-true (save_result two_words r₂.now work target₂).result 0 e₂; written = refl };
      saved₄ = subst (λ (s : State). SavedAs four_words s r₄.now.pool new₄.bytes) (sym A.state)
          (record { work = work; target = target₄; accepted = eqb-true (save_result four_words r₄.now work target₄).result 0 e₄; written = refl });
      exchanges = A.exchanges;
    }

    new_alike : AlikeSaved N new₂ new₄
    new_alike = elim (decided r₂.stateless) [
      | inl e ↦ absurd (true≢false (sym e₂ ∙ refused_save two_words r₂.now work target₂ (A.none e).0))
      | inr e ↦ saved_new e
    ]

saved_added : (N : ℕ) (vs₂ vs₄ : List Saved) (v₂ v₄ : Saved) → AllSaved N vs₂ vs₄ → AlikeSaved N v₂ v₄ → AllSaved N (vs₂ ++ (v₂ ∷ [])) (vs₄ ++ (v₄ ∷ []))
saved_added N [] [] v₂ v₄ I K = (K, tt)
saved_added N [] (u₄ ∷ vs₄) v₂ v₄ I K = absurd I
saved_added N (u₂ ∷ vs₂) [] v₂ v₄ I K = absurd I
saved_added N (u₂ ∷ vs₂) (u₄ ∷ vs₄) v₂ v₄ I K = (I.0, saved_added N vs₂ vs₄ v₂ v₄ I.1 K)

module _ (N : ℕ) where
  alike_save : (r₂ r₄ : Run) (work target₂ target₄ : List ℕ) → ltb (length target₂) (saved_bytes two_words r₂.now.state) ≡ ltb (length target₄) (saved_bytes four_words r₄.now.state)
      → AlikeRuns N r₂ r₄ → AlikeRuns N (run_after two_words r₂ (save work target₂)) (run_after four_words r₄ (save work target₄))
  alike_save r₂ r₄ work target₂ target₄ m A =
      record { exchanges = A.exchanges; stateless = A.stateless; state = A.state; standing = A.standing; none = A.none; images = go (accepted₂ N r₂ r₄ A work target₂ target₄) refl }
    where
      go : (b : Bool) → accepted₂ N r₂ r₄ A work target₂ target₄ ≡ b → AllSaved N (images_after two_words r₂ work target₂) (images_after four_words r₄ work target₄)
      go false e = rw (e, sym (same_save N r₂ r₄ A work target₂ target₄ m) ∙ e) A.images
      go true e =
          let e₄ = sym (same_save N r₂ r₄ A work target₂ target₄ m) ∙ e in
          rw (e, e₄) (saved_added N r₂.images r₄.images _ _ A.images (new_alike N r₂ r₄ A work target₂ target₄ e e₄))

-- ---- a reading

-- image i of both: neither host keeps one, or both do
data AlikeImage (N : ℕ) (v₂ v₄ : Saved) : Type 0 where
  absent : v₂.bytes ≡ [] → v₄.bytes ≡ [] → AlikeImage N v₂ v₄
  present : AlikeSaved N v₂ v₄ → AlikeImage N v₂ v₄

alike_image : (N : ℕ) (vs₂ vs₄ : List Saved) → AllSaved N vs₂ vs₄ → (i : ℕ) → AlikeImage N (image_at vs₂ i) (image_at vs₄ i)
alike_image N [] [] I i = absent refl refl
alike_image N [] (v₄ ∷ vs₄) I i = absurd I
alike_image N (v₂ ∷ vs₂) [] I i = absurd I
alike_image N (v₂ ∷ vs₂) (v₄ ∷ vs₄) I zero = present I.0
alike_image N (v₂ ∷ vs₂) (v₄ ∷ vs₄) I (suc i) = alike_image N vs₂ vs₄ I.1 i

-- an accepted reading gives the saved state, and a pool of words
module _ (L : Layout) (pools : PoolLaws L) (s : State) (ws image : List ℕ) (words : StateWords s ws) (I : SavedAs L s ws image)
    (parts : State) (lent work : List ℕ) (z : (load_on L parts lent work image).result ≡ 0) where
  says : Says L pools.version_le image s.numbers s.deques s.frames ws
  says = image_says L pools s ws image words I

  read_state : (load_on L parts lent work image).state ≡ s
  read_state = ap (λ (o : LoadResult). o.state) (load_taken L parts lent work image z).is ∙ (λ i. record { numbers = says.numbers i; deques = says.deques i; frames = says.frames i })

  read_words_lem : Words lent → Words (load_on L parts lent work image).pool
  read_words_lem w =
      let nodes : Words (pool_in L image) = subst Words (sym says.pool) (below-take 4294967296 (L.words * (numbers_of s).nodes) ws (omega arith) words.pool) in
      subst Words (sym (load_pool L pools parts lent work image (load_taken L parts lent work image z)))
      (below-append 4294967296 (pool_in L image) (drop (length (pool_in L image)) lent) nodes (below-drop 4294967296 (length (pool_in L image)) lent w))

-- what readings give of these images: refused alike, or accepted and alike
record LoadAlike (N : ℕ) (v₂ v₄ : Saved) (o₂ o₄ : LoadResult) : Type 0 where
  result : o₂.result ≡ o₄.result
  state : o₂.state ≡ o₄.state
  after : o₂.result ≡ 0 → Alike N o₂.state o₂.pool o₄.pool
  exchanges : o₂.result ≡ 0 → v₂.past.exchanges ≡ v₄.past.exchanges

module _ (N : ℕ) (v₂ v₄ : Saved) (parts : State) (ws₂ ws₄ work : List ℕ) where
  -- no bytes are refused in both
  load_absent : v₂.bytes ≡ [] → v₄.bytes ≡ [] → LoadAlike N v₂ v₄ (load_on two_words parts ws₂ work v₂.bytes) (load_on four_words parts ws₄ work v₄.bytes)
  unfolding load_on load_with image_check wrong_length
  load_absent e₂ e₄ = elim (decided (fits parts)) [
    | inl f ↦ rw (e₂, e₄, f) (record { result = refl; state = refl; after = λ z. absurd (omega (arith, z)); exchanges = λ z. absurd (omega (arith, z)) })
    | inr f ↦ rw (e₂, e₄, f) (record { result = refl; state = refl; after = λ z. absurd (omega (arith, z)); exchanges = λ z. absurd (omega (arith, z)) })
  ]

  load_present : Words ws₂ → Words ws₄ → AsManyNodes ws₂ ws₄ → AlikeSaved N v₂ v₄ → LoadAlike N v₂ v₄ (load_on two_words parts ws₂ work v₂.bytes) (load_on four_words parts ws₄ work v₄.bytes)
  load_present w₂ w₄ m K =
      let s = K.state in
      let S = K.alike in
      let O = loads_match s K.pool₂ K.pool₄ v₂.bytes v₄.bytes parts ws₂ ws₄ work S.match S.words (old_words S) K.saved₂ K.saved₄ m in
      record {
        result = O.result;
        state = O.state;
        after = λ z.
            let e : (load_on two_words parts ws₂ work v₂.bytes).state ≡ s = read_state two_words two_pools s K.pool₂ v₂.bytes S.words K.saved₂ parts ws₂ work z in
            let pool = read_words_lem two_words two_pools s K.pool₂ v₂.bytes S.words K.saved₂ parts ws₂ work z w₂ in
            let words : StateWords s (load_on two_words parts ws₂ work v₂.bytes).pool = record { numbers = S.words.numbers; deques = S.words.deques; frames = S.words.frames; pool = pool } in
            record {
              match = O.after z;
              words = subst (λ (t : State). StateWords t (load_on two_words parts ws₂ work v₂.bytes).pool) (sym e) words;
              words₄ = read_words_lem four_words four_pools s K.pool₄ v₄.bytes (old_words S) K.saved₄ parts ws₄ work (sym O.result ∙ z) w₄;
              nodes = ap (λ (t : State). (numbers_of t).nodes) e ∙ S.nodes;
            };
        exchanges = λ z. K.exchanges;
      }

  load_alike : Words ws₂ → Words ws₄ → AsManyNodes ws₂ ws₄ → AlikeImage N v₂ v₄ → LoadAlike N v₂ v₄ (load_on two_words parts ws₂ work v₂.bytes) (load_on four_words parts ws₄ work v₄.bytes)
  load_alike w₂ w₄ m (absent e₂ e₄) = load_absent e₂ e₄
  load_alike w₂ w₄ m (present K) = load_present w₂ w₄ m K

module _ (N : ℕ) (i : ℕ) (ns ds ws₂ ws₄ work : List ℕ) (w₂ : Words ws₂) (w₄ : Words ws₄) (m : AsManyNodes ws₂ ws₄) where
  alike_load : (r₂ r₄ : Run) → AlikeRuns N r₂ r₄ → AlikeRuns N (run_after two_words r₂ (load i ns ds ws₂ work)) (run_after four_words r₄ (load i ns ds ws₄ work))
  alike_load r₂ r₄ A = go (eqb (load_result two_words r₂ i ns ds ws₂ work).result 0) refl
    where
      v₂ : Saved
      v₂ = image_at r₂.images i

      v₄ : Saved
      v₄ = image_at r₄.images i

      both : LoadAlike N v₂ v₄ (load_result two_words r₂ i ns ds ws₂ work) (load_result four_words r₄ i ns ds ws₄ work)
      both =
          subst (λ (t : State). LoadAlike N v₂ v₄ (load_result two_words r₂ i ns ds ws₂ work) (load_on four_words (record { numbers = ns; deques = ds; frames = t.frames }) ws₄ work v₄.bytes)) A.state
          (load_alike N v₂ v₄ (into_table r₂ ns ds) ws₂ ws₄ work w₂ w₄ m (alike_image N r₂.images r₄.images A.images i))

      go : (b : Bool) → eqb (load_result two_words r₂ i ns ds ws₂ work).result 0 ≡ b → AlikeRuns N (run_after two_words r₂ (load i ns ds ws₂ work)) (run_after four_words r₄ (load i ns ds ws₄ work))
      go true e =
          let z = eqb-true (load_result two_words r₂ i ns ds ws₂ work).result 0 e in
          rw (e, ap (λ (x : ℕ). eqb x 0) (sym both.result) ∙ e)
          (record { exchanges = both.exchanges z; stateless = refl; state = both.state; standing = λ q. both.after z; none = λ q. absurd (true≢false (sym q)); images = A.images })
      go false e =
          let e₄ : eqb (load_result four_words r₄ i ns ds ws₄ work).result 0 ≡ false = ap (λ (x : ℕ). eqb x 0) (sym both.result) ∙ e in
          rw (e, e₄) (record {
            exchanges = A.exchanges;
            stateless = refl;
            state = both.state;
            standing = λ q. absurd (true≢false q);
            none = λ q. (load_leaves-none two_words (into_table r₂ ns ds) ws₂ work v₂.bytes e, load_leaves-none four_words (into_table r₄ ns ds) ws₄ work v₄.bytes e₄);
            images = A.images;
          })

-- ---- any call, and calls

module _ (N : ℕ) where
  pub alike_after : (c₂ c₄ : Call) (r₂ r₄ : Run) → CallWords c₂ → CallWords c₄ → SameCall r₂ r₄ c₂ c₄ → AlikeRuns N r₂ r₄ → AlikeRuns N (run_after two_words r₂ c₂) (run_after four_words r₄ c₄)
  alike_after (call k) (call k') r₂ r₄ w₂ w₄ e A = subst (λ (j : HostCall). AlikeRuns N (run_after two_words r₂ (call k)) (run_after four_words r₄ (call j))) e (alike_call N k r₂ r₄ w₂ A)
  alike_after (save work target) (save work' target') r₂ r₄ w₂ w₄ e A =
      subst (λ (ks : List ℕ). AlikeRuns N (run_after two_words r₂ (save work target)) (run_after four_words r₄ (save ks target'))) e.0 (alike_save N r₂ r₄ work target target' e.1 A)
  alike_after (load i ns ds ws work) (load i' ns' ds' ws' work') r₂ r₄ w₂ w₄ (ei, en, ed, ek, m) A =
      subst (λ (c : Call). AlikeRuns N (run_after two_words r₂ (load i ns ds ws work)) (run_after four_words r₄ c)) (λ x. load (ei x) (en x) (ed x) ws' (ek x))
      (alike_load N i ns ds ws ws' work w₂ w₄ m r₂ r₄ A)
  alike_after (call k) (save work target) r₂ r₄ w₂ w₄ e A = absurd e
  alike_after (call k) (load i ns ds ws work) r₂ r₄ w₂ w₄ e A = absurd e
  alike_after (save work target) (call k) r₂ r₄ w₂ w₄ e A = absurd e
  alike_after (save work target) (load i ns ds ws work') r₂ r₄ w₂ w₄ e A = absurd e
  alike_after (load i ns ds ws work) (call k) r₂ r₄ w₂ w₄ e A = absurd e
  alike_after (load i ns ds ws work) (save work' target) r₂ r₄ w₂ w₄ e A = absurd e

  pub alike_calls : (cs₂ cs₄ : List Call) (r₂ r₄ : Run) → AllCallWords cs₂ → AllCallWords cs₄ → SameCalls r₂ r₄ cs₂ cs₄ → AlikeRuns N r₂ r₄
      → AlikeRuns N (run_of two_words r₂ cs₂) (run_of four_words r₄ cs₄)
  alike_calls [] [] r₂ r₄ w₂ w₄ e A = A
  alike_calls [] (c₄ ∷ cs₄) r₂ r₄ w₂ w₄ e A = absurd e
  alike_calls (c₂ ∷ cs₂) [] r₂ r₄ w₂ w₄ e A = absurd e
  alike_calls (c₂ ∷ cs₂) (c₄ ∷ cs₄) r₂ r₄ w₂ w₄ e A =
      alike_calls cs₂ cs₄ (run_after two_words r₂ c₂) (run_after four_words r₄ c₄) w₂.1 w₄.1 e.1 (alike_after c₂ c₄ r₂ r₄ w₂.0 w₄.0 e.0 A)

-- ---- accepted starts with as many nodes

pub alike_begun : (b : Start) (ws : List ℕ) → (start_result four_words b).result ≡ 0 → StartWords b → Words ws → AsManyNodes ws b.pool
    → AlikeRuns (whole_nodes four_words b.pool) (begun (after_start two_words (in_pool b ws))) (begun (after_start four_words b))
alike_begun b ws z w w₂ m =
    let O = starts_match b.parts b.workers b.values ws b.pool m in
    let z₂ = O.result ∙ z in
    let F = started_fit four_words b.parts b.workers b.values b.pool z in
    record {
      exchanges = refl;
      stateless = refl;
      state = O.state;
      standing = λ q. record {
        match = O.after z₂;
        words = started_words two_words two_pools (in_pool b ws) z₂ w.0 w₂;
        words₄ = (started_words four_words four_pools b z w.0 w.1).pool;
        nodes = ap (λ (t : State). (numbers_of t).nodes) O.state ∙ ap (λ (o : StartResult). (numbers_of o.state).nodes) F.result;
      };
      none = λ q. absurd (true≢false (sym q));
      images = tt;
    }
