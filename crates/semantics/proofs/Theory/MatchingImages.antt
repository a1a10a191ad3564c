-- R-8: saves and readings in both layouts: images of matching pools, read back, give matching pools.
use Rattle.std.specs.Prelude.{◌≡◌, Bool, true, false, cond, ◌&&◌, List, ◌++◌, ℕ, ◌*◌, ◌≤◌, ◌<◌, eqb, leb, ltb, length, take, drop}
use Rattle.std.proofs.Math.Path.{refl}
use Rattle.std.proofs.Common.{sym, ap, ap₂, ◌∙◌, subst, arith, length-drop, length-take-le}
use Rattle.std.proofs.Math.Logic.{inl, inr}
use borrow.Author.Tests.{leb-true, leb-false, le-leb, lt-leb, ltb-true}
use Rattle.words.specs.Tests.{decided, true≢false}
use Rattle.packed.proofs.Theory.Elsewhere.{unpacks_elsewhere, unpacks_nodes}
use Rattle.soundness.specs.Layout.{Layout, four_words, two_words}
use Rattle.soundness.specs.Soundness.{checked, cleared}
use Rattle.image.specs.Image.{nodes_in, places_in, stored}
use Rattle.image.proofs.Theory.Promises.{Says}
use Rattle.semantics.specs.declared.Refusal.{Refusal}
use Rattle.semantics.specs.declared.Refusal.TheVariants.{Work}
use Rattle.semantics.specs.Entries.{State, fits, numbers_of, totals_of, core_of, is_sound, chain_free}
use Rattle.semantics.specs.Images.{saved_image, saved_bytes, save_with, save_on, LoadResult, state_in, pool_with, records_zero, nodes_zero, load_refused, load_with, load_on}
use Rattle.semantics.specs.Calls.{StateAndPool}
use Rattle.semantics.specs.Demands.{StateWords}
use Rattle.semantics.specs.Promises.{Fits}
use Rattle.semantics.specs.Matching.{SoundMatch, AsManyNodes, SameSave, SavesMatch, SameLoad, SavedAs, LoadsMatch}
use Rattle.semantics.proofs.Theory.Fitting.{totals_long, state_back}
use Rattle.semantics.proofs.Theory.Pools.{PoolLaws, SameNodes}
use Rattle.semantics.proofs.Theory.FourPools.{four_pools}
use Rattle.semantics.proofs.Theory.TwoPools.{two_pools}
use Rattle.semantics.proofs.Theory.SoundSteps.{is_sound_lem, sound_carried}
use Rattle.semantics.proofs.Theory.Elsewhere.{carried_elsewhere}
use Rattle.semantics.proofs.Theory.Images.{sound_room, state_says, front_same, save_taken, accepted_save}
use Rattle.semantics.proofs.Theory.Matching.{unpacks_match, match_unpacks}

-- ---- saves

module _ (s : State) (ws₂ ws₄ : List ℕ) (S : SoundMatch s ws₂ ws₄) (work target₂ target₄ : List ℕ) where
  save_both : SameSave s target₂ target₄ (save_on two_words s ws₂ work target₂) (save_on four_words s ws₄ work target₄)
  unfolding save_on save_with checked
  save_both = elim (decided (fits s)) [
    | inr f ↦ rw f (record { work = refl; result = λ a b. refl })
    | inl f ↦ elim (decided (leb (numbers_of s).nodes (length work))) [
      | inr l ↦ rw (f, l) (record { work = refl; result = λ a b. refl })
      | inl l ↦ elim (decided (ltb (length target₂) (saved_bytes two_words s))) [
        | inl t ↦ elim (decided (ltb (length target₄) (saved_bytes four_words s))) [
          | inl u ↦ rw (f, l, S.two_sound, S.four_sound, t, u) (record { work = refl; result = λ a b. refl })
          | inr u ↦ rw (f, l, S.two_sound, S.four_sound, t, u) (record { work = refl; result = λ a b. absurd (omega (arith, a, ltb-true (length target₂) (saved_bytes two_words s) t)) })
        ]
        | inr t ↦ elim (decided (ltb (length target₄) (saved_bytes four_words s))) [
          | inl u ↦ rw (f, l, S.two_sound, S.four_sound, t, u) (record { work = refl; result = λ a b. absurd (omega (arith, b, ltb-true (length target₄) (saved_bytes four_words s) u)) })
          | inr u ↦ rw (f, l, S.two_sound, S.four_sound, t, u) (record { work = refl; result = λ a b. refl })
        ]
      ]
    ]
  ]

pub saves_match : (s : State) (ws₂ ws₄ work target₂ target₄ : List ℕ) → SavesMatch s ws₂ ws₄ work target₂ target₄
saves_match s ws₂ ws₄ work target₂ target₄ S = save_both s ws₂ ws₄ S work target₂ target₄

-- ---- a reading of the image of a sound state

module _ (L : Layout) (s : State) where
  abbrev N : ℕ
  N = (numbers_of s).nodes

  -- the lent pool with the nodes of ws in its front, if it holds them
  abbrev with_nodes : List ℕ → List ℕ → List ℕ
  with_nodes ws lent = cond (leb (L.words * N) (length lent)) (take (L.words * N) ws ++ drop (L.words * N) lent) lent

  -- what a reading gives, by the nodes, the places, the state and the pool that are read
  abbrev read_as : State → List ℕ → List ℕ → ℕ → ℕ → State → List ℕ → LoadResult
  read_as parts lent work k m t ws =
      cond (fits parts)
      (cond (ltb (length work) k) (load_refused parts.frames lent work Work)
      (cond (eqb (length parts.frames) m && is_sound L t ws) (record { state = t; pool = ws; work = cleared k work; result = 0 })
      (load_refused (records_zero parts.frames) (nodes_zero L lent) (cleared k work) Refusal.Unsound)))
      (record { state = parts; pool = lent; work = work; result = 99 })

  module _ (pools : PoolLaws L) (ws image : List ℕ) (Y : Says L pools.version_le image s.numbers s.deques s.frames ws) (room : L.words * N ≤ length ws) (parts : State) (lent work : List ℕ) where
    pool_is : pool_with L lent image ≡ with_nodes ws lent
    pool_is =
        ap₂ (λ (k : ℕ) (l : List ℕ). cond (leb (L.words * k) (length lent)) (stored l lent) lent) Y.nodes Y.pool
        ∙ ap (λ (k : ℕ). cond (leb (L.words * N) (length lent)) (take (L.words * N) ws ++ drop k lent) lent) (length-take-le (L.words * N) ws room)

    state_is : state_in L image ≡ s
    state_is = λ i. record { numbers = Y.numbers i; deques = Y.deques i; frames = Y.frames i }

    load_good : load_on L parts lent work image ≡ read_as parts lent work (nodes_in image) (places_in image) (state_in L image) (pool_with L lent image)
    unfolding load_on load_with
    load_good = rw Y.good refl

    load_is : load_on L parts lent work image ≡ read_as parts lent work N (numbers_of s).places s (with_nodes ws lent)
    load_is = load_good ∙ (λ i. read_as parts lent work (Y.nodes i) (Y.places i) (state_is i) (pool_is i))

-- ---- readings

-- the same nodes elsewhere are as sound
four_elsewhere : (s : State) (ws ws' : List ℕ) → Fits s → is_sound four_words s ws ≡ true → SameNodes four_words (numbers_of s).nodes ws ws' → is_sound four_words s ws' ≡ true
four_elsewhere s ws ws' F e same =
    let k = chain_free four_words s ws in
    let C = sound_carried four_words four_pools (numbers_of s) (totals_of s) s.deques s.frames ws (totals_long s F) F.deques e in
    subst (λ (t : State). is_sound four_words t ws' ≡ true) (state_back s ws k F) (is_sound_lem four_words four_pools (carried_elsewhere four_words four_pools _ (core_of s ws k) ws' C same)).0

-- a pool that does not hold the nodes is not sound
no_room : (L : Layout) (s : State) (ws : List ℕ) → length ws < L.words * (numbers_of s).nodes → is_sound L s ws ≡ false
no_room L s ws h = elim (decided (is_sound L s ws)) [ inl e ↦ absurd (omega (arith, h, sound_room L s ws e)) | inr e ↦ e ]

module _ (s : State) (ws₂ ws₄ : List ℕ) (S : SoundMatch s ws₂ ws₄) (F : Fits s) (parts : State) (lent₂ lent₄ work : List ℕ) (m : AsManyNodes lent₂ lent₄) where
  abbrev K : ℕ
  K = (numbers_of s).nodes

  -- ---- pools that hold the nodes

  module _ (held₂ : 2 * K ≤ length lent₂) (held₄ : 4 * K ≤ length lent₄) where
    abbrev P₂ : List ℕ
    P₂ = take (2 * K) ws₂ ++ drop (2 * K) lent₂

    abbrev P₄ : List ℕ
    P₄ = take (4 * K) ws₄ ++ drop (4 * K) lent₄

    same₂ : SameNodes two_words K ws₂ P₂
    same₂ = front_same two_words two_pools K ws₂ lent₂ (sound_room two_words s ws₂ S.two_sound) held₂

    same₄ : SameNodes four_words K ws₄ P₄
    same₄ = front_same four_words four_pools K ws₄ lent₄ (sound_room four_words s ws₄ S.four_sound) held₄

    read_match : SoundMatch s P₂ P₄
    read_match =
        let U = match_unpacks s ws₂ S.two_sound ws₄ (sound_room four_words s ws₄ S.four_sound) S.matches in
        let U' = unpacks_elsewhere (drop (2 * K) P₂) P₂ same₂.same (omega (arith, same₂.room, length-drop (2 * K) P₂)) refl (unpacks_nodes (record { room = same₄.room; same = same₄.same }) U) in
        unpacks_match s P₂ P₄ (drop (2 * K) P₂) (four_elsewhere s ws₄ P₄ F S.four_sound same₄) U'

  -- ---- the reading, of these pools or of ones that are not sound

  read_both : (P P' : List ℕ) (b : Bool) → is_sound two_words s P ≡ b → is_sound four_words s P' ≡ b → (b ≡ true → SoundMatch s P P')
      → SameLoad (read_as two_words s parts lent₂ work K (numbers_of s).places s P) (read_as four_words s parts lent₄ work K (numbers_of s).places s P')
  read_both P P' b e₂ e₄ h = elim (decided (fits parts)) [
    | inr f ↦ rw f (record { result = refl; state = refl; work = refl; after = λ z. absurd (omega (arith, z)) })
    | inl f ↦ elim (decided (ltb (length work) K)) [
      | inl l ↦ rw (f, l) (record { result = refl; state = refl; work = refl; after = λ z. absurd (omega (arith, z)) })
      | inr l ↦ elim (decided (eqb (length parts.frames) (numbers_of s).places)) [
        | inr k ↦ rw (f, l, k) (record { result = refl; state = refl; work = refl; after = λ z. absurd (omega (arith, z)) })
        | inl k ↦ elim (decided b) [
          | inl t ↦ rw (f, l, k, e₂ ∙ t, e₄ ∙ t) (record { result = refl; state = refl; work = refl; after = λ z. h t })
          | inr t ↦ rw (f, l, k, e₂ ∙ t, e₄ ∙ t) (record { result = refl; state = refl; work = refl; after = λ z. absurd (omega (arith, z)) })
        ]
      ]
    ]
  ]

  read_same : SameLoad (read_as two_words s parts lent₂ work K (numbers_of s).places s (with_nodes two_words s ws₂ lent₂)) (read_as four_words s parts lent₄ work K (numbers_of s).places s (with_nodes four_words s ws₄ lent₄))
  read_same = elim (decided (leb (2 * K) (length lent₂))) [
    | inl l ↦
        let held₂ : 2 * K ≤ length lent₂ = leb-true (2 * K) (length lent₂) l in
        let held₄ : 4 * K ≤ length lent₄ = omega (arith, m) in
        let R = read_match held₂ held₄ in
        rw (l, le-leb (4 * K) (length lent₄) held₄) (read_both (P₂ held₂ held₄) (P₄ held₂ held₄) true R.two_sound R.four_sound (λ z. R))
    | inr l ↦
        let short₂ : length lent₂ < 2 * K = leb-false (2 * K) (length lent₂) l in
        let short₄ : length lent₄ < 4 * K = omega (arith, m) in
        rw (l, lt-leb (4 * K) (length lent₄) short₄) (read_both lent₂ lent₄ false (no_room two_words s lent₂ short₂) (no_room four_words s lent₄ short₄) (λ z. absurd (true≢false (sym z))))
  ]

-- what the image says that an accepted save of a state of words has written
pub image_says : (L : Layout) (pools : PoolLaws L) (s : State) (ws image : List ℕ) → StateWords s ws → SavedAs L s ws image → Says L pools.version_le image s.numbers s.deques s.frames ws
image_says L pools s ws image words I =
    let h : StateAndPool = record { state = s; pool = ws } in
    let T = save_taken L h I.work I.target I.accepted in
    let e : image ≡ saved_image L s ws = I.written ∙ (accepted_save L pools h I.work I.target I.accepted).image in
    subst (λ (b : List ℕ). Says L pools.version_le b s.numbers s.deques s.frames ws) (sym e) (state_says L pools s ws words T.parts T.still)

pub loads_match : (s : State) (ws₂ ws₄ image₂ image₄ : List ℕ) (parts : State) (lent₂ lent₄ work : List ℕ) → LoadsMatch s ws₂ ws₄ image₂ image₄ parts lent₂ lent₄ work
loads_match s ws₂ ws₄ image₂ image₄ parts lent₂ lent₄ work S words₂ words₄ I₂ I₄ m =
    let F = (save_taken two_words (record { state = s; pool = ws₂ }) I₂.work I₂.target I₂.accepted).parts in
    let r₂ = load_is two_words s two_pools ws₂ image₂ (image_says two_words two_pools s ws₂ image₂ words₂ I₂) (sound_room two_words s ws₂ S.two_sound) parts lent₂ work in
    let r₄ = load_is four_words s four_pools ws₄ image₄ (image_says four_words four_pools s ws₄ image₄ words₄ I₄) (sound_room four_words s ws₄ S.four_sound) parts lent₄ work in
    rw (r₂, r₄) (read_same s ws₂ ws₄ S F parts lent₂ lent₄ work m)
