-- A part of the data, n words from its word i on: h words in the rest of a block, then m whole blocks, then a block's beginning.
use Rattle.std.proofs.Common.{◌≡◌, sym, ap, ap₂, ◌∙◌, ◌≢◌, List, ℕ, ◌+◌, ◌-◌, ◌*◌, ◌/◌, ◌%◌, ◌≤◌, min, arith, length, take, drop}
use native.Mathlib.Decide.{ℕ_discrete}
use lib.Seq.{sets, length-take-le, take-add}
use Rattle.image.specs.Inner.{place_of, sum_before, put_words, words_at, read_words}
use Rattle.image.proofs.Stores.{put_append, sum-none}
use Rattle.image.proofs.Loops.{sets_next, length_data_words, data_split, data_run}

module _ (i n h m : ℕ) (eh : h ≡ min n (127 - i % 127)) (em : m ≡ (n - h) / 127) where
  pub first_in_lem : (h ≤ n) × (i % 127 + h ≤ 127)
  first_in_lem = (omega arith, omega arith)

  -- whole blocks begin at a block
  at_block : m ≢ 0 → (i + h) % 127 ≡ 0
  at_block p = omega arith

  pub last_in : (i + (h + 127 * m)) % 127 + (n - (h + 127 * m)) ≤ 127
  last_in = omega arith

  -- stored
  module _ (from t t₁ t₂ : List ℕ) (ln : n ≤ length from) (e₁ : t₁ ≡ put_words t i (take h from)) (e₂ : t₂ ≡ put_words t₁ (127 * ((i + h) / 127)) (take (127 * m) (drop h from))) where
    pub two_stored : t₂ ≡ put_words t i (take (h + 127 * m) from)
    unfolding put_words
    two_stored = elim (ℕ_discrete m 0) [
      | yes z ↦ let e : h ≡ h + 127 * m = omega arith in
          e₂ ∙ ap (λ (x : ℕ). put_words t₁ (127 * ((i + h) / 127)) (take (127 * x) (drop h from))) z ∙ e₁ ∙ ap (λ (x : ℕ). put_words t i (take x from)) e
      | no p ↦ let e : 127 * ((i + h) / 127) ≡ i + length (take h from) = omega (arith, at_block p, length-take-le h from (omega arith)) in
          e₂ ∙ ap₂ (λ (q : List ℕ) (x : ℕ). put_words q x (take (127 * m) (drop h from))) e₁ e ∙ sym (put_append (take h from) (take (127 * m) (drop h from)) t i) ∙ ap (put_words t i) (sym (take-add h (127 * m) from))
    ]

    -- the sum of the open block
    pub sum_kept : (s : ℕ) → s ≡ sum_before t₁ (i + h) → s ≡ sum_before t₂ (i + (h + 127 * m))
    unfolding put_words
    sum_kept s e = elim (ℕ_discrete m 0) [
      | yes z ↦ let f : h ≡ h + 127 * m = omega arith in
          let g : t₁ ≡ t₂ = sym (e₂ ∙ ap (λ (x : ℕ). put_words t₁ (127 * ((i + h) / 127)) (take (127 * x) (drop h from))) z) in
          e ∙ ap₂ (λ (q : List ℕ) (x : ℕ). sum_before q (i + x)) g f
      | no p ↦ e ∙ sum-none t₁ (i + h) (at_block p) ∙ sym (sum-none t₂ (i + (h + 127 * m)) (omega (arith, at_block p)))
    ]

    pub all-stored : (t₃ : List ℕ) → t₃ ≡ put_words t₂ (i + (h + 127 * m)) (take (n - (h + 127 * m)) (drop (h + 127 * m) from)) → t₃ ≡ put_words t i (take n from)
    all-stored t₃ e₃ =
        let k : ℕ = h + 127 * m in
        let l : i + k ≡ i + length (take k from) = omega (arith, length-take-le k from (omega arith)) in
        let f : k + (n - k) ≡ n = omega arith in
        e₃ ∙ ap₂ (λ (q : List ℕ) (x : ℕ). put_words q x (take (n - k) (drop k from))) two_stored l ∙ sym (put_append (take k from) (take (n - k) (drop k from)) t i)
        ∙ ap (put_words t i) (sym (take-add k (n - k) from) ∙ ap (λ (x : ℕ). take x from) f)

  -- read
  module _ (image t t₁ t₂ t₃ : List ℕ) (f p : ℕ) where
    pub all_read : f ≡ place_of i → p ≡ place_of (i + (h + 127 * m)) → t₁ ≡ sets t 0 (words_at h image f) → t₂ ≡ sets t₁ h (read_words (127 * m) image (127 * ((i + h) / 127)))
        → t₃ ≡ sets t₂ (h + 127 * m) (words_at (n - (h + 127 * m)) image p) → t₃ ≡ sets t 0 (read_words n image i)
    unfolding read_words
    all_read ef ep e₁ e₂ e₃ =
        let k : ℕ = h + 127 * m in
        let all : n ≡ k + (n - k) = omega arith in
        let d₁ : t₁ ≡ sets t 0 (read_words h image i) = e₁ ∙ ap (λ (x : ℕ). sets t 0 (words_at h image x)) ef ∙ ap (sets t 0) (sym (data_run h image i first_in_lem.1)) in
        let d₂ : t₂ ≡ sets t 0 (read_words k image i) = elim (ℕ_discrete m 0) [
          | yes z ↦ let e : h ≡ k = omega arith in
              e₂ ∙ ap (λ (x : ℕ). sets t₁ h (read_words (127 * x) image (127 * ((i + h) / 127)))) z ∙ d₁ ∙ ap (λ (x : ℕ). sets t 0 (read_words x image i)) e
          | no q ↦ let e : 127 * ((i + h) / 127) ≡ i + h = omega (arith, at_block q) in
              e₂ ∙ ap (λ (x : ℕ). sets t₁ h (read_words (127 * m) image x)) e
              ∙ sets_next t t₁ (read_words h image i) (read_words (127 * m) image (i + h)) (read_words k image i) 0 h d₁ (omega (arith, length_data_words h image i)) (data_split h (127 * m) image i)
        ] in
        e₃ ∙ ap (λ (x : ℕ). sets t₂ k (words_at (n - k) image x)) ep ∙ ap (sets t₂ k) (sym (data_run (n - k) image (i + k) last_in))
        ∙ sets_next t t₂ (read_words k image i) (read_words (n - k) image (i + k)) (read_words n image i) 0 k d₂ (omega (arith, length_data_words k image i)) (ap (λ (x : ℕ). read_words x image i) all ∙ data_split k (n - k) image i)
