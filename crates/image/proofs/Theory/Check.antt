-- R-4: the check of a block is the sum of its words.
use Rattle.std.specs.Prelude.{◌≡◌, refl, List, [], ◌∷◌, ◌++◌, ℕ, zero, suc, ◌+◌, ◌*◌, ◌%◌, ◌^◌, ◌<◌, length, get_or, replicate}
use Rattle.std.proofs.Common.{sym, ap, ap₂, ◌∙◌, arith, length-append, drop_at}
use Rattle.std.proofs.lemmas.List.{length-replicate}
use Rattle.words.specs.Basics.{plus, sum}
use Rattle.words.specs.Counting.{sum_cong}
use Rattle.image.specs.Widths.{data_bytes, data_words}
use Rattle.image.specs.Image.{word_bytes, bytes_of, word_at, check}
use Rattle.image.proofs.Theory.Bytes.{word_back, length-bytes, bytes-append}
use Rattle.image.proofs.Theory.Blocks.{word_drop, word_front}

-- ---- bytes and words

-- "each data byte times 256 raised to its offset modulo 4"
abbrev byte_term : List ℕ → ℕ → ℕ
byte_term bs i = get_or bs i 0 * 256 ^ (i % 4)

four : (m : ℕ) (bs : List ℕ) → byte_term bs (4 * m) + byte_term bs (4 * m + 1) + byte_term bs (4 * m + 2) + byte_term bs (4 * m + 3) ≡ word_at bs (4 * m)
unfolding word_at
four m bs =
    let e0 : 4 * m % 4 ≡ 0 = omega arith in
    let e1 : (4 * m + 1) % 4 ≡ 1 = omega arith in
    let e2 : (4 * m + 2) % 4 ≡ 2 = omega arith in
    let e3 : (4 * m + 3) % 4 ≡ 3 = omega arith in
    rw (e0, e1, e2, e3) (omega arith)

-- the sums are equal before they are taken modulo 4,294,967,296
bytes_are_words : (m : ℕ) (bs : List ℕ) → sum (4 * m) (byte_term bs) ≡ sum m (λ j. word_at bs (4 * j))
bytes_are_words zero bs = refl
bytes_are_words (suc m) bs =
    let e : 4 * suc m ≡ suc (suc (suc (suc (4 * m)))) = omega arith in
    let e1 : suc (4 * m) ≡ 4 * m + 1 = omega arith in
    let e2 : suc (suc (4 * m)) ≡ 4 * m + 2 = omega arith in
    let e3 : suc (suc (suc (4 * m))) ≡ 4 * m + 3 = omega arith in
    let f : sum (suc (suc (suc (suc (4 * m))))) (byte_term bs) ≡ sum (4 * m) (byte_term bs) + byte_term bs (4 * m) + byte_term bs (4 * m + 1) + byte_term bs (4 * m + 2) + byte_term bs (4 * m + 3) = rw (← e3, ← e2, ← e1) refl in
    ap (λ (k : ℕ). sum k (byte_term bs)) e ∙ f ∙ omega (arith, four m bs, bytes_are_words m bs)

-- R-1's sum over the bytes of so many words is the sum of the words
pub check-words : (n : ℕ) (bytes : List ℕ) → length bytes ≡ 4 * n → check bytes ≡ sum n (λ j. word_at bytes (4 * j)) % 4294967296
unfolding check
check-words n bytes e = ap (λ (k : ℕ). sum k (byte_term bytes) % 4294967296) e ∙ ap (λ (k : ℕ). k % 4294967296) (bytes_are_words n bytes)

-- "sum it a word at a time, 127 words to a block, and show for every block that this is R-1's sum over the bytes"
pub block_by_words : (bytes : List ℕ) → length bytes ≡ data_bytes → check bytes ≡ sum data_words (λ j. word_at bytes (4 * j)) % 4294967296
block_by_words bytes e = check-words data_words bytes e

-- ---- parts of a block

sum_split : (m n : ℕ) (f : ℕ → ℕ) → sum (m + n) f ≡ sum m f + sum n (λ j. f (m + j))
sum_split m zero f = let e : m + 0 ≡ m = omega arith in ap (λ (k : ℕ). sum k f) e ∙ omega arith
sum_split m (suc n) f = let e : m + suc n ≡ suc (m + n) = omega arith in ap (λ (k : ℕ). sum k f) e ∙ omega (arith, sum_split m n f)

word_behind : (xs ys : List ℕ) (at : ℕ) → word_at (xs ++ ys) (length xs + at) ≡ word_at ys at
word_behind xs ys at = sym (word_drop (xs ++ ys) (length xs) at) ∙ ap (λ (l : List ℕ). word_at l at) (drop_at xs ys (length xs) refl)

pub check-append : (m n : ℕ) (xs ys : List ℕ) → length xs ≡ 4 * m → length ys ≡ 4 * n → check (xs ++ ys) ≡ plus (check xs) (check ys)
check-append m n xs ys lx ly =
    let front : sum m (λ j. word_at (xs ++ ys) (4 * j)) ≡ sum m (λ j. word_at xs (4 * j)) =
    sum_cong m (λ j. word_at (xs ++ ys) (4 * j)) (λ j. word_at xs (4 * j)) (λ j b. word_front xs ys (4 * j) (omega arith)) in
    let behind : sum n (λ j. word_at (xs ++ ys) (4 * (m + j))) ≡ sum n (λ j. word_at ys (4 * j)) =
    sum_cong n (λ j. word_at (xs ++ ys) (4 * (m + j))) (λ j. word_at ys (4 * j)) (λ j b. let e : 4 * (m + j) ≡ length xs + 4 * j = omega arith in ap (word_at (xs ++ ys)) e ∙ word_behind xs ys (4 * j)) in
    check-words (m + n) (xs ++ ys) (omega (arith, length-append xs ys))
    ∙ ap (λ (k : ℕ). k % 4294967296) (sum_split m n (λ j. word_at (xs ++ ys) (4 * j)))
    ∙ omega (arith, front, behind, check-words m xs lx, check-words n ys ly)

pub check-none : check [] ≡ 0
unfolding check
check-none = refl

pub check_word : (w : ℕ) → w < 4294967296 → check (word_bytes w) ≡ w
unfolding word_at
check_word w h = check-words 1 (word_bytes w) refl ∙ one (word_at (word_bytes w) (4 * 0)) (word_back w h)
  where
    one : (x : ℕ) → x ≡ w → (0 + x) % 4294967296 ≡ w
    one x e = omega (arith, h)

-- a word more
pub check-next : (xs : List ℕ) (w : ℕ) → w < 4294967296 → check (bytes_of (xs ++ w ∷ [])) ≡ plus (check (bytes_of xs)) w
unfolding bytes_of
check-next xs w h =
    ap check (bytes-append xs (w ∷ []))
    ∙ check-append (length xs) 1 (bytes_of xs) (word_bytes w) (length-bytes xs) refl
    ∙ ap (plus (check (bytes_of xs))) (check_word w h)

-- zeros add nothing
pub check-zeros : (n : ℕ) → check (bytes_of (replicate n 0)) ≡ 0
unfolding bytes_of
check-zeros zero = check-none
check-zeros (suc n) =
    check-append 1 n (word_bytes 0) (bytes_of (replicate n 0)) refl (omega (arith, length-bytes (replicate n 0), length-replicate {A = ℕ} n 0))
    ∙ ap₂ plus (check_word 0 (omega arith)) (check-zeros n)
