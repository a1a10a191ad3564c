-- When an image is refused by 17 and by 18.
use Rattle.image.specs.Image.{ImageCheck}
use Rattle.image.specs.declared.ImageError.TheVariants.{WrongLength, WrongCheck}
use Rattle.std.specs.Prelude.{◌≡◌, true, cond, not, ◌||◌, ◌⊎◌, ◌≢◌, ◌↔◌, length, get_or, take, drop, ltb, Err, Ok}
use Rattle.std.proofs.Math.Path.{refl, sym, subst}
use Rattle.std.proofs.Common.{ap, ◌∙◌, take-take, drop-drop}
use Rattle.std.proofs.Math.Bool.{Bool, false}
use Rattle.std.proofs.Math.Logic.{inl, inr}
use mathlib.Core.List.{List, [], ◌∷◌}
use Prim.Native.Nat.{ℕ, zero, suc, ◌+◌, ◌*◌, ◌<◌, ◌≤◌}
use native.Mathlib.Omega.{arith}
use Rattle.std.proofs.Math.Dec.{eqb}
use borrow.Author.Tests.{eq-eqb, ne_eqb, eqb-true, eqb-false, lt-ltb, le-ltb, ltb-true, ltb-false}
use Rattle.words.specs.Tests.{decided, neither, not-false, true≢false}
use Rattle.image.specs.Widths.{block_bytes, data_bytes, version, version_step}
use Rattle.image.specs.Image.{word_at, check, first_in, no_form, blocks_called, wrong_length, checks_hold, all_zero, rest_of, wrong_check, image_check}
use Rattle.image.proofs.Theory.Version.{Readable}
use Rattle.image.proofs.Theory.Blocks.{word_take}
use Rattle.soundness.specs.Layout.{Layout}

module _ (L : Layout) (low_version : L.version ≤ 4) where
  -- block k of an image
  abbrev pub block_at : List ℕ → ℕ → List ℕ
  block_at image k = take block_bytes (drop (block_bytes * k) image)

  -- "a check is wrong": the word after the data of block k is not R-1's sum over that data
  abbrev pub CheckWrong : List ℕ → ℕ → Type 0
  CheckWrong image k = word_at (block_at image k) data_bytes ≢ check (take data_bytes (block_at image k))

  -- of a block that is called for
  abbrev pub SomeCheckWrong : List ℕ → Type 0
  SomeCheckWrong image = (k : ℕ) × (k < blocks_called L image) × CheckWrong image k

  -- "the rest of the last block is not zero": one of its bytes
  abbrev pub RestNotZero : List ℕ → Type 0
  RestNotZero image = (i : ℕ) × (get_or (rest_of L image) i 0 ≢ 0)

  -- ---- a wrong check

  next-block : (image : List ℕ) (k : ℕ) → block_at (drop 512 image) k ≡ block_at image (suc k)
  next-block image k = let e : 512 + 512 * k ≡ 512 * suc k = omega arith in ap (take 512) (drop-drop (512 * k) 512 image ∙ ap (λ (j : ℕ). drop j image) e)

  summed : (image : List ℕ) → check (take 508 (take 512 image)) ≡ check (take 508 image)
  summed image = ap check (take-take 508 512 image (omega arith))

  some_wrong : (n : ℕ) (image : List ℕ) → checks_hold n image ≡ false → (k : ℕ) × (k < n) × CheckWrong image k
  unfolding checks_hold
  some_wrong zero image e = absurd (true≢false e)
  some_wrong (suc n) image e = elim (decided (eqb (word_at image 508) (check (take 508 image)))) [
    | inl r ↦
        let f : checks_hold n (drop 512 image) ≡ false = rw r at e in
        let w : (k : ℕ) × (k < n) × CheckWrong (drop 512 image) k = some_wrong n (drop 512 image) f in
        (suc w.0, omega (arith, w.1), λ d. w.2 (subst (λ (b : List ℕ). word_at b 508 ≡ check (take 508 b)) (sym (next-block image w.0)) d))
    | inr r ↦ (0, omega arith, λ d. eqb-false (word_at image 508) (check (take 508 image)) r (sym (word_take 512 image 508 (omega arith)) ∙ d ∙ summed image))
  ]

  wrong_some : (n : ℕ) (image : List ℕ) (k : ℕ) → k < n → CheckWrong image k → checks_hold n image ≡ false
  unfolding checks_hold
  wrong_some zero image k h w = absurd (omega arith)
  wrong_some (suc n) image zero h w =
      rw (ne_eqb (word_at image 508) (check (take 508 image)) (λ d. w (word_take 512 image 508 (omega arith) ∙ d ∙ sym (summed image))))
  wrong_some (suc n) image (suc k) h w =
      let f : checks_hold n (drop 512 image) ≡ false = wrong_some n (drop 512 image) k (omega arith) (λ d. w (subst (λ (b : List ℕ). word_at b 508 ≡ check (take 508 b)) (next-block image k) d)) in
      elim (decided (eqb (word_at image 508) (check (take 508 image)))) [ inl r ↦ rw (r, f) | inr r ↦ rw r ]

  -- ---- a byte that is not zero

  some_byte : (bs : List ℕ) → all_zero bs ≡ false → (i : ℕ) × (get_or bs i 0 ≢ 0)
  unfolding all_zero
  some_byte [] e = absurd (true≢false e)
  some_byte (b ∷ bs) e = elim (decided (eqb b 0)) [
    | inl z ↦ let w : (i : ℕ) × (get_or bs i 0 ≢ 0) = some_byte bs (rw z at e) in (suc w.0, w.1)
    | inr z ↦ (0, eqb-false b 0 z)
  ]

  byte_some : (bs : List ℕ) (i : ℕ) → get_or bs i 0 ≢ 0 → all_zero bs ≡ false
  unfolding all_zero
  byte_some [] i w = absurd (w refl)
  byte_some (b ∷ bs) zero w = rw (ne_eqb b 0 w)
  byte_some (b ∷ bs) (suc i) w = let f : all_zero bs ≡ false = byte_some bs i w in elim (decided (eqb b 0)) [ inl z ↦ rw (z, f) | inr z ↦ rw z ]

  -- ---- 17 and 18

  -- a first word of a readable form, and as many whole blocks as are called for
  pub record RightLength (image : List ℕ) : Type 0 where
    pub form : Readable L low_version (first_in image)
    pub long : length image ≡ block_bytes * blocks_called L image

  -- "17, the image is not just as many whole blocks as its first block calls for, or has no whole block"; "A first word of no readable
  -- form gives 17."
  abbrev pub NotRightLength : List ℕ → Type 0
  NotRightLength image = (length image < block_bytes) ⊎ (first_in image < version L) ⊎ (version L + version_step ≤ first_in image) ⊎ (length image ≢ block_bytes * blocks_called L image)

  module _ (image : List ℕ) where
    -- a block is called for
    pub whole : length image ≡ 512 * blocks_called L image → 512 ≤ length image
    whole d = omega arith

    readable_form : Readable L low_version (first_in image) → no_form L image ≡ false
    readable_form (h, k) = rw (le-ltb (first_in image) (version L) h, lt-ltb (first_in image) (version L + version_step) k)

    form_readable : no_form L image ≡ false → Readable L low_version (first_in image)
    form_readable e =
        let n = neither (ltb (first_in image) (version L)) (not (ltb (first_in image) (version L + version_step))) e in
        (ltb-false (first_in image) (version L) n.0, ltb-true (first_in image) (version L + version_step) (not-false (ltb (first_in image) (version L + version_step)) n.1))

    pub right-length : RightLength image → wrong_length L image ≡ false
    unfolding wrong_length
    right-length r =
        rw (le-ltb (length image) 512 (whole r.long), readable_form r.form, eq-eqb (length image) (512 * blocks_called L image) r.long)

    pub length-right : wrong_length L image ≡ false → RightLength image
    unfolding wrong_length
    length-right e =
        let t : Bool = eqb (length image) (512 * blocks_called L image) in
        let n = neither (ltb (length image) 512 || no_form L image) (not t) e in
        record {
          form = form_readable (neither (ltb (length image) 512) (no_form L image) n.0).1;
          long = eqb-true (length image) (512 * blocks_called L image) (not-false t n.1);
        }

    not_right : NotRightLength image → RightLength image → ⊥
    not_right (inl h) r = omega (arith, whole r.long)
    not_right (inr (inl f)) r = omega (arith, r.form.0)
    not_right (inr (inr (inl f))) r = omega (arith, r.form.1)
    not_right (inr (inr (inr d))) r = d r.long

    length_wrong : NotRightLength image → wrong_length L image ≡ true
    length_wrong n = elim (decided (wrong_length L image)) [ inl e ↦ e | inr e ↦ absurd (not_right n (length-right e)) ]

    wrong_length_lem : wrong_length L image ≡ true → NotRightLength image
    wrong_length_lem e = elim (decided (ltb (first_in image) (version L))) [
      | inl f ↦ inr (inl (ltb-true (first_in image) (version L) f))
      | inr f ↦ elim (decided (ltb (first_in image) (version L + version_step))) [
        | inl g ↦ inr (inr (inr (λ d. true≢false (sym e ∙ right-length (record { form = (ltb-false (first_in image) (version L) f, ltb-true (first_in image) (version L + version_step) g); long = d })))))
        | inr g ↦ inr (inr (inl (ltb-false (first_in image) (version L + version_step) g)))
      ]
    ]

    -- what each answer says of the two tests
    abbrev pub Means : ImageCheck → Type 0
    Means (Err WrongLength) = wrong_length L image ≡ true
    Means (Err WrongCheck) = (wrong_length L image ≡ false) × (wrong_check L image ≡ true)
    Means (Ok _) = (wrong_length L image ≡ false) × (wrong_check L image ≡ false)

    tested : (a b : Bool) → wrong_length L image ≡ a → wrong_check L image ≡ b → Means (cond a (Err WrongLength) (cond b (Err WrongCheck) (Ok tt)))
    tested true b ea eb = ea
    tested false true ea eb = (ea, eb)
    tested false false ea eb = (ea, eb)

    pub means : (r : ImageCheck) → image_check L image ≡ r → Means r
    unfolding image_check
    means r e = subst Means e (tested (wrong_length L image) (wrong_check L image) refl refl)

    which_18 : wrong_check L image ≡ true → SomeCheckWrong image ⊎ RestNotZero image
    unfolding wrong_check
    which_18 e = elim (decided (checks_hold (blocks_called L image) image)) [
      | inr c ↦ inl (some_wrong (blocks_called L image) image c)
      | inl c ↦ elim (decided (all_zero (rest_of L image))) [
        | inl z ↦ absurd (true≢false (sym (rw (c, z) at e)))
        | inr z ↦ inr (some_byte (rest_of L image) z)
      ]
    ]

    one_18 : SomeCheckWrong image ⊎ RestNotZero image → wrong_check L image ≡ true
    unfolding wrong_check
    one_18 (inl w) = let c : checks_hold (blocks_called L image) image ≡ false = wrong_some (blocks_called L image) image w.0 w.1 w.2 in rw c
    one_18 (inr w) =
        let z : all_zero (rest_of L image) ≡ false = byte_some (rest_of L image) w.0 w.1 in
        elim (decided (checks_hold (blocks_called L image) image)) [ inl c ↦ rw (c, z) | inr c ↦ rw c ]

    pub when_17 : (image_check L image ≡ (Err WrongLength)) ↔ NotRightLength image
    unfolding image_check
    when_17 = (λ e. wrong_length_lem (means (Err WrongLength) e), λ h. rw (length_wrong h))

    pub when_18 : (image_check L image ≡ (Err WrongCheck)) ↔ (RightLength image × (SomeCheckWrong image ⊎ RestNotZero image))
    unfolding image_check
    when_18 = (λ e. (length-right (means (Err WrongCheck) e).0, which_18 (means (Err WrongCheck) e).1), λ h. rw (right-length h.0, one_18 h.1))
