-- Words as bytes and back.
use Rattle.std.specs.Prelude.{◌≡◌, length, get_or, take, replicate}
use Rattle.std.proofs.Math.Path.{refl, ap, ap₂}
use Rattle.std.proofs.Common.{sym, ◌∙◌, mod-eq_of_lt}
use mathlib.Core.List.{List, [], ◌∷◌, ◌++◌}
use Prim.Native.Nat.{ℕ, zero, suc, ◌+◌, ◌*◌, ◌/◌, ◌%◌, ◌<◌}
use native.Mathlib.Omega.{arith}
use Rattle.std.proofs.Math.Numerals.{unary_clauses}
use Rattle.std.proofs.Math.Nat.{div-div-eq-div-mul}
use Rattle.std.proofs.Math.Seq.{take-nil}
pub use Rattle.words.specs.Below.{Below, Words, Bytes}
use Rattle.model.specs.Record.{little}
use Rattle.image.specs.Image.{word_bytes, bytes_of, words_of, word_at}

-- ---- one word

pub word_back : (w : ℕ) → w < 4294967296 → little (word_bytes w) ≡ w
word_back w h = digits w (w / 256) (w / 65536) (w / 16777216) refl (sym (div-div-eq-div-mul w 256 256)) (sym (div-div-eq-div-mul w 65536 256)) h
  where
    digits : (w p q r : ℕ) → p ≡ w / 256 → q ≡ w / 256 / 256 → r ≡ w / 65536 / 256 → w < 4294967296 → w % 256 + 256 * (p % 256 + 256 * (q % 256 + 256 * (r % 256 + 256 * 0))) ≡ w
    digits w p q r ep eq er h =
        let s : w / 65536 ≡ q = sym (div-div-eq-div-mul w 256 256) ∙ sym eq in
        let r' : r ≡ q / 256 = er ∙ ap (λ (k : ℕ). k / 256) s in
        let q' : q ≡ p / 256 = eq ∙ ap (λ (k : ℕ). k / 256) (sym ep) in
        let b : r < 256 = omega arith in
        let c : r % 256 ≡ r = omega arith in
        omega arith

low : (a q : ℕ) → a < 256 → (a + 256 * q) % 256 ≡ a
low a q h = omega arith

pub bytes_back : (a b c d : ℕ) → a < 256 → b < 256 → c < 256 → d < 256 → word_bytes (little (a ∷ b ∷ c ∷ d ∷ [])) ≡ a ∷ b ∷ c ∷ d ∷ []
bytes_back a b c d ha hb hc hd =
    let w : ℕ = little (a ∷ b ∷ c ∷ d ∷ []) in
    let q1 : w / 256 ≡ b + 256 * (c + 256 * d) = omega arith in
    let q2 : w / 65536 ≡ c + 256 * d = sym (div-div-eq-div-mul w 256 256) ∙ ap (λ (k : ℕ). k / 256) q1 ∙ omega arith in
    let q3 : w / 16777216 ≡ d = sym (div-div-eq-div-mul w 65536 256) ∙ ap (λ (k : ℕ). k / 256) q2 ∙ omega arith in
    let e0 : w % 256 ≡ a = omega arith in
    let e1 : w / 256 % 256 ≡ b = ap (λ (k : ℕ). k % 256) q1 ∙ low b (c + 256 * d) hb in
    let e2 : w / 65536 % 256 ≡ c = ap (λ (k : ℕ). k % 256) q2 ∙ low c d hc in
    let e3 : w / 16777216 % 256 ≡ d = ap (λ (k : ℕ). k % 256) q3 ∙ mod-eq_of_lt hd in
    rw (e0, e1, e2, e3)

-- ---- lists

pub length-bytes : (ws : List ℕ) → length (bytes_of ws) ≡ 4 * length ws
unfolding bytes_of
length-bytes [] = refl
length-bytes (w ∷ ws) = omega (arith, length-bytes ws)

pub bytes-append : (xs ys : List ℕ) → bytes_of (xs ++ ys) ≡ bytes_of xs ++ bytes_of ys
unfolding bytes_of
bytes-append [] ys = refl
bytes-append (x ∷ xs) ys = ap (λ (l : List ℕ). word_bytes x ++ l) (bytes-append xs ys)

pub bytes_take : (n : ℕ) (ws : List ℕ) → bytes_of (take n ws) ≡ take (4 * n) (bytes_of ws)
unfolding bytes_of
bytes_take zero ws = refl
bytes_take (suc n) [] = sym (take-nil (4 * suc n))
bytes_take (suc n) (w ∷ ws) =
    let e : 4 * suc n ≡ suc (suc (suc (suc (4 * n)))) = omega arith in
    ap (λ (l : List ℕ). word_bytes w ++ l) (bytes_take n ws) ∙ ap (λ (k : ℕ). take k (word_bytes w ++ bytes_of ws)) (sym e)

pub words_back : (ws : List ℕ) → Words ws → words_of (bytes_of ws) ≡ ws
unfolding bytes_of words_of
words_back [] h = refl
words_back (w ∷ ws) h = ap₂ ◌∷◌ (word_back w (h 0)) (words_back ws (λ i. h (suc i)))

-- so many whole words
module _ where
  pub length-words : (n : ℕ) (bs : List ℕ) → length bs ≡ 4 * n → length (words_of bs) ≡ n
  unfolding words_of
  length-words zero [] e = refl
  length-words zero (a ∷ bs) e = absurd (omega arith)
  length-words (suc n) [] e = absurd (omega arith)
  length-words (suc n) (a ∷ []) e = absurd (omega arith)
  length-words (suc n) (a ∷ b ∷ []) e = absurd (omega arith)
  length-words (suc n) (a ∷ b ∷ c ∷ []) e = absurd (omega arith)
  length-words (suc n) (a ∷ b ∷ c ∷ d ∷ bs) e = ap suc (length-words n bs (omega arith))

  pub bytes-words : (n : ℕ) (bs : List ℕ) → length bs ≡ 4 * n → Bytes bs → bytes_of (words_of bs) ≡ bs
  unfolding bytes_of words_of
  bytes-words zero [] e h = refl
  bytes-words zero (a ∷ bs) e h = absurd (omega arith)
  bytes-words (suc n) [] e h = absurd (omega arith)
  bytes-words (suc n) (a ∷ []) e h = absurd (omega arith)
  bytes-words (suc n) (a ∷ b ∷ []) e h = absurd (omega arith)
  bytes-words (suc n) (a ∷ b ∷ c ∷ []) e h = absurd (omega arith)
  bytes-words (suc n) (a ∷ b ∷ c ∷ d ∷ bs) e h =
      ap₂ ◌++◌ (bytes_back a b c d (h 0) (h 1) (h 2) (h 3)) (bytes-words n bs (omega arith) (λ i. h (suc (suc (suc (suc i))))))

  pub words_append : (n : ℕ) (bs cs : List ℕ) → length bs ≡ 4 * n → words_of (bs ++ cs) ≡ words_of bs ++ words_of cs
  unfolding words_of
  words_append zero [] cs e = refl
  words_append zero (a ∷ bs) cs e = absurd (omega arith)
  words_append (suc n) [] cs e = absurd (omega arith)
  words_append (suc n) (a ∷ []) cs e = absurd (omega arith)
  words_append (suc n) (a ∷ b ∷ []) cs e = absurd (omega arith)
  words_append (suc n) (a ∷ b ∷ c ∷ []) cs e = absurd (omega arith)
  words_append (suc n) (a ∷ b ∷ c ∷ d ∷ bs) cs e = ap (λ (l : List ℕ). little (a ∷ b ∷ c ∷ d ∷ []) ∷ l) (words_append n bs cs (omega arith))

  pub at_words : (n : ℕ) (bs : List ℕ) → length bs ≡ 4 * n → (i : ℕ) → i < n → get_or (words_of bs) i 0 ≡ word_at bs (4 * i)
  unfolding words_of word_at
  at_words zero bs e i b = absurd (omega arith)
  at_words (suc n) [] e i b = absurd (omega arith)
  at_words (suc n) (x ∷ []) e i b = absurd (omega arith)
  at_words (suc n) (x ∷ y ∷ []) e i b = absurd (omega arith)
  at_words (suc n) (x ∷ y ∷ z ∷ []) e i b = absurd (omega arith)
  at_words (suc n) (x ∷ y ∷ z ∷ u ∷ bs) e zero b = refl
  at_words (suc n) (x ∷ y ∷ z ∷ u ∷ bs) e (suc i) b =
      let k : 4 * suc i ≡ suc (suc (suc (suc (4 * i)))) = omega arith in
      at_words n bs (omega arith) i (omega arith) ∙ rw k (simp unary_clauses refl)

pub bytes-zeros : (n : ℕ) → bytes_of (replicate n 0) ≡ replicate (4 * n) 0
unfolding bytes_of
bytes-zeros zero = refl
bytes-zeros (suc n) =
    let e : 4 * suc n ≡ suc (suc (suc (suc (4 * n)))) = omega arith in
    ap (λ (l : List ℕ). 0 ∷ 0 ∷ 0 ∷ 0 ∷ l) (bytes-zeros n) ∙ ap (λ (k : ℕ). replicate k 0) (sym e)
