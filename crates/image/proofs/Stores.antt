-- Words stored as an image's data, with the checks of the blocks that they fill.
use mathlib.Core.Path.{◌≡◌, refl, sym, ap, ap₂, ◌∙◌}
use mathlib.Core.List.{List, [], ◌∷◌, ◌++◌, append_assoc}
use Prim.Native.Nat.{ℕ, zero, suc, ◌+◌, ◌*◌, ◌/◌, ◌%◌, ◌<◌, ◌≤◌}
use native.Mathlib.Omega.{arith}
use native.Mathlib.Decide.{ℕ_discrete}
use lib.ListN.{length, take, drop, set, length-append, length-drop, take-append-drop}
use lib.Seq.{sets, sets-eq, take_at, drop_at, length-take-le, drop-drop, take-add}
use borrow.Author.Tests.{eq-eqb, ne_eqb}
use Rattle.words.specs.Basics.{plus}
use Rattle.image.specs.Image.{word_bytes, bytes_of, check, block, blocks_of}
use Rattle.image.specs.Inner.{place_of, sum_before, with_check, after_word, put_words}
use Rattle.image.proofs.Theory.Bytes.{length-bytes, bytes-append}
use Rattle.image.proofs.Theory.Check.{check-append, check-none}

-- ---- words

pub put_append : (xs ys t : List ℕ) (i : ℕ) → put_words t i (xs ++ ys) ≡ put_words (put_words t i xs) (i + length xs) ys
unfolding put_words
put_append [] ys t i = let e : i + 0 ≡ i = omega arith in ap (λ (k : ℕ). put_words t k ys) (sym e)
put_append (x ∷ xs) ys t i =
    let e : suc i + length xs ≡ i + suc (length xs) = omega arith in
    let u : List ℕ = after_word (sets t (place_of i) (word_bytes x)) i in
    put_append xs ys u (suc i) ∙ ap (λ (k : ℕ). put_words (put_words u (suc i) xs) k ys) e

-- words stored after words
pub put_next : (t u v xs ys : List ℕ) (i k : ℕ) → u ≡ put_words t i xs → k ≡ i + length xs → v ≡ put_words u k ys → v ≡ put_words t i (xs ++ ys)
put_next t u v xs ys i k e l d = d ∙ ap₂ (λ (q : List ℕ) (m : ℕ). put_words q m ys) e l ∙ sym (put_append xs ys t i)

within : (t : List ℕ) (i : ℕ) → i % 127 < 126 → after_word t i ≡ t
unfolding after_word
within t i h = rw (ne_eqb (i % 127) 126 (λ e. omega arith))

at_last : (t : List ℕ) (i : ℕ) → i % 127 ≡ 126 → after_word t i ≡ with_check t (512 * (i / 127))
unfolding after_word
at_last t i h = rw (eq-eqb (i % 127) 126 h)

-- words that do not fill their block lie side by side
pub put_run : (xs t : List ℕ) (i : ℕ) → i % 127 + length xs < 127 → put_words t i xs ≡ sets t (place_of i) (bytes_of xs)
unfolding put_words bytes_of
put_run [] t i h = refl
put_run (x ∷ []) t i h = within (sets t (place_of i) (word_bytes x)) i (omega arith)
put_run (x ∷ y ∷ ys) t i h =
    let e : place_of (suc i) ≡ suc (suc (suc (suc (place_of i)))) = omega arith in
    let u : List ℕ = sets t (place_of i) (word_bytes x) in
    ap (λ (q : List ℕ). put_words q (suc i) (y ∷ ys)) (within u i (omega arith))
    ∙ put_run (y ∷ ys) u (suc i) (omega arith)
    ∙ ap (λ (k : ℕ). sets u k (bytes_of (y ∷ ys))) e

-- those that do have its check behind them
pub put_last : (xs t : List ℕ) (i : ℕ) → i % 127 + length xs ≡ 127 → put_words t i xs ≡ with_check (sets t (place_of i) (bytes_of xs)) (512 * (i / 127))
unfolding put_words bytes_of
put_last [] t i h = absurd (omega arith)
put_last (x ∷ []) t i h = at_last (sets t (place_of i) (word_bytes x)) i (omega arith)
put_last (x ∷ y ∷ ys) t i h =
    let e : place_of (suc i) ≡ suc (suc (suc (suc (place_of i)))) = omega arith in
    let f : 512 * (suc i / 127) ≡ 512 * (i / 127) = omega arith in
    let u : List ℕ = sets t (place_of i) (word_bytes x) in
    ap (λ (q : List ℕ). put_words q (suc i) (y ∷ ys)) (within u i (omega arith))
    ∙ put_last (y ∷ ys) u (suc i) (omega arith)
    ∙ ap₂ (λ (k m : ℕ). with_check (sets u k (bytes_of (y ∷ ys))) m) e f

sets_shift : (bs pre t : List ℕ) (p : ℕ) → sets (pre ++ t) (length pre + p) bs ≡ pre ++ sets t p bs
sets_shift [] pre t p = refl
sets_shift (b ∷ bs) pre t p =
    let e : suc (length pre + p) ≡ length pre + suc p = omega arith in
    ap (λ (l : List ℕ). sets l (suc (length pre + p)) bs) (one pre) ∙ ap (λ (k : ℕ). sets (pre ++ set t p b) k bs) e ∙ sets_shift bs pre (set t p b) (suc p)
  where
    one : (pre : List ℕ) → set (pre ++ t) (length pre + p) b ≡ pre ++ set t p b
    one [] = let e : 0 + p ≡ p = omega arith in ap (λ (k : ℕ). set t k b) e
    one (x ∷ pre) = let e : suc (length pre) + p ≡ suc (length pre + p) = omega arith in ap (λ (k : ℕ). set (x ∷ (pre ++ t)) k b) e ∙ ap (λ (l : List ℕ). x ∷ l) (one pre)

-- ---- a block further on

check_shift : (pre t : List ℕ) (at : ℕ) → length pre ≡ 512 → with_check (pre ++ t) (512 + at) ≡ pre ++ with_check t at
unfolding with_check
check_shift pre t at l =
    let e : 512 + at + 508 ≡ length pre + (at + 508) = omega arith in
    let d : drop (512 + at) (pre ++ t) ≡ drop at t = sym (drop-drop at 512 (pre ++ t)) ∙ ap (drop at) (drop_at pre t 512 l) in
    ap₂ (λ (k : ℕ) (q : List ℕ). sets (pre ++ t) k (word_bytes (check (take 508 q)))) e d ∙ sets_shift (word_bytes (check (take 508 (drop at t)))) pre t (at + 508)

after_shift : (pre t : List ℕ) (i : ℕ) → length pre ≡ 512 → after_word (pre ++ t) (127 + i) ≡ pre ++ after_word t i
after_shift pre t i l = elim (ℕ_discrete (i % 127) 126) [
  | yes e ↦ let f : 512 * ((127 + i) / 127) ≡ 512 + 512 * (i / 127) = omega arith in
      at_last (pre ++ t) (127 + i) (omega arith) ∙ ap (with_check (pre ++ t)) f ∙ check_shift pre t (512 * (i / 127)) l ∙ ap (λ (q : List ℕ). pre ++ q) (sym (at_last t i e))
  | no e ↦ within (pre ++ t) (127 + i) (omega arith) ∙ ap (λ (q : List ℕ). pre ++ q) (sym (within t i (omega arith)))
]

put_shift : (xs pre t : List ℕ) (i : ℕ) → length pre ≡ 512 → put_words (pre ++ t) (127 + i) xs ≡ pre ++ put_words t i xs
unfolding put_words
put_shift [] pre t i l = refl
put_shift (x ∷ xs) pre t i l =
    let e : place_of (127 + i) ≡ length pre + place_of i = omega arith in
    let f : suc (127 + i) ≡ 127 + suc i = omega arith in
    let u : List ℕ = sets t (place_of i) (word_bytes x) in
    ap₂ (λ (p : List ℕ) (k : ℕ). put_words p k xs)
    (ap (λ (k : ℕ). after_word (sets (pre ++ t) k (word_bytes x)) (127 + i)) e ∙ ap (λ (q : List ℕ). after_word q (127 + i)) (sets_shift (word_bytes x) pre t (place_of i)) ∙ after_shift pre u i l)
    f
    ∙ put_shift xs pre (after_word u i) (suc i) l

-- ---- whole blocks

check-first : (t : List ℕ) → 512 ≤ length t → with_check t 0 ≡ block (take 508 t) ++ drop 512 t
unfolding with_check
check-first t h = sets-eq (word_bytes (check (take 508 t))) t 508 (omega arith)

first_block_lem : (xs t : List ℕ) → length xs ≡ 127 → 512 ≤ length t → put_words t 0 xs ≡ block (bytes_of xs) ++ drop 512 t
first_block_lem xs t lx lt =
    let bs : List ℕ = bytes_of xs in
    let lb : length bs ≡ 508 = omega (arith, length-bytes xs) in
    let z : 0 + length bs ≡ 508 = omega arith in
    let s : sets t 0 bs ≡ bs ++ drop 508 t = sets-eq bs t 0 (omega arith) ∙ ap (λ (k : ℕ). bs ++ drop k t) z in
    let l : 512 ≤ length (bs ++ drop 508 t) = omega (arith, length-append bs (drop 508 t), length-drop 508 t) in
    let d : drop 512 (bs ++ drop 508 t) ≡ drop 512 t = sym (drop-drop 4 508 (bs ++ drop 508 t)) ∙ ap (drop 4) (drop_at bs (drop 508 t) 508 lb) ∙ drop-drop 4 508 t in
    put_last xs t 0 (omega arith)
    ∙ ap (λ (q : List ℕ). with_check q 0) s
    ∙ check-first (bs ++ drop 508 t) l
    ∙ ap₂ (λ (p q : List ℕ). block p ++ q) (take_at bs (drop 508 t) 508 lb) d

-- the words of n blocks
pub put_blocks : (n : ℕ) (ws t : List ℕ) → length ws ≡ 127 * n → 512 * n ≤ length t → put_words t 0 ws ≡ blocks_of n (bytes_of ws) ++ drop (512 * n) t
unfolding blocks_of put_words
put_blocks zero [] t e h = refl
put_blocks zero (w ∷ ws) t e h = absurd (omega arith)
put_blocks (suc n) ws t e h =
    let xs : List ℕ = take 127 ws in
    let ys : List ℕ = drop 127 ws in
    let lx : length xs ≡ 127 = length-take-le 127 ws (omega arith) in
    let z : 0 + length xs ≡ 127 + 0 = omega arith in
    let pre : List ℕ = block (bytes_of xs) in
    let lb : length (bytes_of xs) ≡ 508 = omega (arith, length-bytes xs) in
    let lp : length pre ≡ 512 = omega (arith, length-append (bytes_of xs) (word_bytes (check (bytes_of xs)))) in
    let b : bytes_of ws ≡ bytes_of xs ++ bytes_of ys = ap bytes_of (sym (take-append-drop 127 ws)) ∙ bytes-append xs ys in
    let f : take 508 (bytes_of ws) ≡ bytes_of xs = ap (take 508) b ∙ take_at (bytes_of xs) (bytes_of ys) 508 lb in
    let g : drop 508 (bytes_of ws) ≡ bytes_of ys = ap (drop 508) b ∙ drop_at (bytes_of xs) (bytes_of ys) 508 lb in
    let m : 512 + 512 * n ≡ 512 * suc n = omega arith in
    ap (put_words t 0) (sym (take-append-drop 127 ws)) ∙ put_append xs ys t 0
    ∙ ap₂ (λ (q : List ℕ) (k : ℕ). put_words q k ys) (first_block_lem xs t lx (omega arith)) z
    ∙ put_shift ys pre (drop 512 t) 0 lp
    ∙ ap (λ (q : List ℕ). pre ++ q) (put_blocks n ys (drop 512 t) (omega (arith, length-drop 127 ws)) (omega (arith, length-drop 512 t)))
    ∙ sym (append_assoc pre (blocks_of n (bytes_of ys)) (drop (512 * n) (drop 512 t)))
    ∙ ap₂ (λ (p q : List ℕ). block p ++ blocks_of n q ++ drop (512 * n) (drop 512 t)) (sym f) (sym g)
    ∙ ap (λ (q : List ℕ). block (take 508 (bytes_of ws)) ++ blocks_of n (drop 508 (bytes_of ws)) ++ q) (drop-drop (512 * n) 512 t ∙ ap (λ (k : ℕ). drop k t) m)

-- ---- sums

-- what stands before stored bytes, and they
front_of_sets : (bs t : List ℕ) (p a : ℕ) → p + a + length bs ≤ length t → take (a + length bs) (drop p (sets t (p + a) bs)) ≡ take a (drop p t) ++ bs
front_of_sets bs t p a h =
    let q : List ℕ = take a (drop p t) in
    let rest : List ℕ = drop (p + a + length bs) t in
    let lp : length (take p t) ≡ p = length-take-le p t (omega arith) in
    let lq : length q ≡ a = length-take-le a (drop p t) (omega (arith, length-drop p t)) in
    let e : sets t (p + a) bs ≡ take p t ++ (q ++ bs ++ rest) =
    sets-eq bs t (p + a) h ∙ ap (λ (x : List ℕ). x ++ bs ++ rest) (take-add p a t) ∙ ap (λ (x : List ℕ). x ++ rest) (append_assoc (take p t) q bs) ∙ append_assoc (take p t) (q ++ bs) rest in
    ap (λ (x : List ℕ). take (a + length bs) (drop p x)) e
    ∙ ap (take (a + length bs)) (drop_at (take p t) (q ++ bs ++ rest) p lp)
    ∙ take_at (q ++ bs) rest (a + length bs) (omega (arith, length-append q bs))

module _ (xs t : List ℕ) (i : ℕ) (fits : place_of i + 4 * length xs ≤ length t) where
  -- the check of a block's beginning after words are stored in it
  sum-run : i % 127 + length xs ≤ 127 → check (take (4 * (i % 127 + length xs)) (drop (512 * (i / 127)) (sets t (place_of i) (bytes_of xs)))) ≡ plus (sum_before t i) (check (bytes_of xs))
  unfolding sum_before
  sum-run h =
      let p : ℕ = 512 * (i / 127) in
      let a : ℕ = 4 * (i % 127) in
      let bs : List ℕ = bytes_of xs in
      let lb : length bs ≡ 4 * length xs = length-bytes xs in
      let e : 4 * (i % 127 + length xs) ≡ a + length bs = omega arith in
      let lq : length (take a (drop p t)) ≡ 4 * (i % 127) = length-take-le a (drop p t) (omega (arith, length-drop p t)) in
      ap (λ (k : ℕ). check (take k (drop p (sets t (p + a) bs)))) e
      ∙ ap check (front_of_sets bs t p a (omega arith))
      ∙ check-append (i % 127) (length xs) (take a (drop p t)) bs lq lb

  pub sum-after : i % 127 + length xs < 127 → sum_before (sets t (place_of i) (bytes_of xs)) (i + length xs) ≡ plus (sum_before t i) (check (bytes_of xs))
  unfolding sum_before
  sum-after h =
      let e : (i + length xs) % 127 ≡ i % 127 + length xs = omega arith in
      let f : (i + length xs) / 127 ≡ i / 127 = omega arith in
      ap₂ (λ (a b : ℕ). check (take (4 * a) (drop (512 * b) (sets t (place_of i) (bytes_of xs))))) e f ∙ sum-run (omega arith)

  pub sum-block : i % 127 + length xs ≡ 127 → check (take 508 (drop (512 * (i / 127)) (sets t (place_of i) (bytes_of xs)))) ≡ plus (sum_before t i) (check (bytes_of xs))
  sum-block h = ap (λ (a : ℕ). check (take (4 * a) (drop (512 * (i / 127)) (sets t (place_of i) (bytes_of xs))))) (sym h) ∙ sum-run (omega arith)

pub sum_word : (t : List ℕ) (i : ℕ) → sum_before t i < 4294967296
unfolding sum_before check
sum_word t i = omega arith

-- nothing of the block is stored yet
pub sum-none : (t : List ℕ) (i : ℕ) → i % 127 ≡ 0 → sum_before t i ≡ 0
unfolding sum_before
sum-none t i e = ap (λ (a : ℕ). check (take (4 * a) (drop (512 * (i / 127)) t))) e ∙ check-none
