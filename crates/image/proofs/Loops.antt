-- A turn and the end of the loops.
use Rattle.std.proofs.Common.{◌≡◌, refl, sym, ap, ap₂, ◌∙◌, Bool, true, false, ◌&&◌, List, [], ◌∷◌, ◌++◌, ℕ, zero, suc, ◌+◌, ◌-◌, ◌*◌, ◌%◌, ◌<◌, ◌≤◌, arith, add-one, length, get_or, take, drop, set, replicate, length-drop, eqb}
use native.Mathlib.Nat.{mod-add-mod}
use native.Mathlib.Numerals.{unary_clauses}
use lib.ListN.{length-replicate, replicate-append-replicate}
use lib.Seq.{get_or-drop, sets, set-set, take-suc, take_all, drop-drop, take-add, length-take-le}
use borrow.Author.Tests.{ne_eqb}
use Rattle.std.specs.Int.{w32, from_le_bytes}
use Rattle.words.specs.Basics.{plus, sum}
use Rattle.words.specs.Counting.{sum_cong}
use Rattle.model.specs.Record.{little}
use Rattle.image.specs.Image.{word_bytes, bytes_of, word_at, check, checks_hold, all_zero}
use Rattle.image.specs.Inner.{place_of, put_words, words_at, read_words}
use Rattle.image.proofs.Theory.Bytes.{length-bytes, bytes-append}
use Rattle.image.proofs.Theory.Blocks.{word_drop, word_take}
use Rattle.image.proofs.Theory.Check.{check-none, check-next, block_by_words}
use Rattle.image.proofs.Stores.{put_append}

-- the number of four bytes
pub le_word : (a b c d : ℕ) → from_le_bytes w32 (a ∷ b ∷ c ∷ d ∷ []) ≡ little (a ∷ b ∷ c ∷ d ∷ [])
le_word a b c d = omega arith

-- at the end all of it is done
pub at_end : {A : Type 0} (F : ℕ → A) {n k : ℕ} {x : A} → k ≤ n → n ≤ k → x ≡ F k → x ≡ F n
at_end F {n} {k} a b e = let d : k ≡ n = omega arith in e ∙ ap F d

pub take-all : {A B : Type 0} (F : List A → B) (xs : List A) {k : ℕ} {x : B} → length xs ≤ k → x ≡ F (take k xs) → x ≡ F xs
take-all F xs {k} h e = e ∙ ap F (take_all k xs h)

-- ---- stores

sets_append : (xs ys t : List ℕ) (at : ℕ) → sets t at (xs ++ ys) ≡ sets (sets t at xs) (at + length xs) ys
sets_append [] ys t at = let e : at + 0 ≡ at = omega arith in ap (λ (k : ℕ). sets t k ys) (sym e)
sets_append (x ∷ xs) ys t at =
    let e : suc at + length xs ≡ at + suc (length xs) = omega arith in
    sets_append xs ys (set t at x) (suc at) ∙ ap (λ (k : ℕ). sets (sets (set t at x) (suc at) xs) k ys) e

-- stores after stores
pub sets_next : (t u xs ys zs : List ℕ) (at k : ℕ) → u ≡ sets t at xs → at + length xs ≡ k → zs ≡ xs ++ ys → sets u k ys ≡ sets t at zs
sets_next t u xs ys zs at k e l w =
    ap (λ (q : List ℕ). sets q k ys) e ∙ ap (λ (j : ℕ). sets (sets t at xs) j ys) (sym l) ∙ sym (sets_append xs ys t at) ∙ ap (sets t at) (sym w)

-- a word more of a run
take_next : (from : List ℕ) (j k : ℕ) → j + k < length from → take (k + 1) (drop j from) ≡ take k (drop j from) ++ get_or from (j + k) 0 ∷ []
take_next from j k h =
    ap (λ (m : ℕ). take m (drop j from)) (add-one k) ∙ take-suc (drop j from) k 0 (omega (arith, length-drop j from)) ∙ ap (λ (v : ℕ). take k (drop j from) ++ v ∷ []) (get_or-drop j from k 0)

pub run_turn : (t u from : List ℕ) (at j k : ℕ) → j + k < length from → u ≡ sets t at (bytes_of (take k (drop j from)))
    → sets u (at + 4 * k) (word_bytes (get_or from (j + k) 0)) ≡ sets t at (bytes_of (take (k + 1) (drop j from)))
unfolding bytes_of
run_turn t u from at j k h e =
    let xs : List ℕ = take k (drop j from) in
    sets_next t u (bytes_of xs) (word_bytes (get_or from (j + k) 0)) (bytes_of (take (k + 1) (drop j from))) at (at + 4 * k) e
    (omega (arith, length-bytes xs, length-take-le k (drop j from) (omega (arith, length-drop j from))))
    (ap bytes_of (take_next from j k h) ∙ bytes-append xs (get_or from (j + k) 0 ∷ []))

-- its sum
pub run-start : (from : List ℕ) (before j : ℕ) → before < 4294967296 → before ≡ plus before (check (bytes_of (take 0 (drop j from))))
unfolding bytes_of
run-start from before j h = omega (arith, check-none)

plus_assoc : (a b c : ℕ) → plus (plus a b) c ≡ plus a (plus b c)
plus_assoc a b c = omega arith

pub run-sum : (from : List ℕ) (before s v j k : ℕ) → j + k < length from → get_or from (j + k) 0 < 4294967296 → v ≡ plus s (get_or from (j + k) 0) → s ≡ plus before (check (bytes_of (take k (drop j from))))
    → v ≡ plus before (check (bytes_of (take (k + 1) (drop j from))))
run-sum from before s v j k h b d e =
    let w : ℕ = get_or from (j + k) 0 in
    let xs : List ℕ = take k (drop j from) in
    d ∙ ap (λ (x : ℕ). plus x w) e ∙ plus_assoc before (check (bytes_of xs)) w
    ∙ ap (plus before) (sym (ap (λ (l : List ℕ). check (bytes_of l)) (take_next from j k h) ∙ check-next xs w b))

pub zeros_turn : (t u : List ℕ) (at k : ℕ) → u ≡ sets t at (replicate k 0) → set u (at + k) 0 ≡ sets t at (replicate (k + 1) 0)
zeros_turn t u at k e =
    sets_next t u (replicate k 0) (0 ∷ []) (replicate (k + 1) 0) at (at + k) e (ap (λ (m : ℕ). at + m) (length-replicate {A = ℕ} k 0)) (sym (replicate-append-replicate {A = ℕ} k 1 0))

length_from : (n : ℕ) (bs : List ℕ) (at : ℕ) → length (words_at n bs at) ≡ n
unfolding words_at
length_from zero bs at = refl
length_from (suc n) bs at = ap suc (length_from n bs (at + 4))

words_split : (m n : ℕ) (bs : List ℕ) (at : ℕ) → words_at (m + n) bs at ≡ words_at m bs at ++ words_at n bs (at + 4 * m)
unfolding words_at
words_split zero n bs at =
    let e : 0 + n ≡ n = omega arith in
    let f : at ≡ at + 4 * 0 = omega arith in
    ap₂ (λ (k a : ℕ). words_at k bs a) e f
words_split (suc m) n bs at =
    let e : suc m + n ≡ suc (m + n) = omega arith in
    let f : at + 4 + 4 * m ≡ at + 4 * suc m = omega arith in
    ap (λ (k : ℕ). words_at k bs at) e ∙ ap (λ (l : List ℕ). word_at bs at ∷ l) (words_split m n bs (at + 4) ∙ ap (λ (a : ℕ). words_at m bs (at + 4) ++ words_at n bs a) f)

-- words read after words
pub words-next : (t u v bs : List ℕ) (at j m r n p q : ℕ) → m + r ≡ n → p ≡ j + m → q ≡ at + 4 * m → u ≡ sets t j (words_at m bs at) → v ≡ sets u p (words_at r bs q) → v ≡ sets t j (words_at n bs at)
words-next t u v bs at j m r n p q en ep eq e d =
    d ∙ ap (λ (a : ℕ). sets u p (words_at r bs a)) eq
    ∙ sets_next t u (words_at m bs at) (words_at r bs (at + 4 * m)) (words_at n bs at) j p e (omega (arith, length_from m bs at)) (ap (λ (k : ℕ). words_at k bs at) (sym en) ∙ words_split m r bs at)

pub read_turn : (t u bs : List ℕ) (at j k v : ℕ) → v ≡ word_at bs (at + 4 * k) → u ≡ sets t j (words_at k bs at) → set u (j + k) v ≡ sets t j (words_at (k + 1) bs at)
unfolding words_at
read_turn t u bs at j k v d e = words-next t u (set u (j + k) v) bs at j k 1 (k + 1) (j + k) (at + 4 * k) refl refl refl e (ap (λ (x : ℕ). set u (j + k) x) d)

-- four words
pub four_read : (t bs : List ℕ) (at j a b c d : ℕ) → a ≡ word_at bs at → b ≡ word_at bs (at + 4) → c ≡ word_at bs (at + 8) → d ≡ word_at bs (at + 12)
    → set (set (set (set t j a) (j + 1) b) (j + 2) c) (j + 3) d ≡ sets t j (words_at 4 bs at)
unfolding words_at
four_read t bs at j a b c d ea eb ec ed =
    let f : at + 8 ≡ at + 4 + 4 = omega arith in
    let g : at + 12 ≡ at + 4 + 4 + 4 = omega arith in
    rw (ea, eb, ec, ed, f, g) (simp unary_clauses refl)

-- the last four of a block, after 31 times four: the first of them is stored again
pub last_four : (t u v bs : List ℕ) (at j : ℕ) → u ≡ sets t j (words_at 124 bs at) → v ≡ sets u (j + 123) (words_at 4 bs (at + 492)) → v ≡ sets t j (words_at 127 bs at)
unfolding words_at
last_four t u v bs at j e d =
    let w : List ℕ = sets t j (words_at 123 bs at) in
    let p : ℕ = j + 123 in
    let rest : List ℕ = words_at 3 bs (at + 492 + 4) in
    let s : u ≡ set w p (word_at bs (at + 492)) =
    e ∙ ap (sets t j) (words_split 123 1 bs at) ∙ sym (sets_next t w (words_at 123 bs at) (word_at bs (at + 492) ∷ []) (words_at 123 bs at ++ word_at bs (at + 492) ∷ []) j p refl (ap (λ (k : ℕ). j + k) (length_from 123 bs at)) refl) in
    let o : v ≡ sets w p (words_at 4 bs (at + 492)) = d ∙ ap (λ (q : List ℕ). sets q p (words_at 4 bs (at + 492))) s ∙ ap (λ (q : List ℕ). sets q (suc p) rest) (set-set w p (word_at bs (at + 492)) (word_at bs (at + 492))) in
    words-next t w v bs at j 123 4 127 p (at + 492) refl refl refl refl o

-- ---- runs

-- a block more
pub block_turn : (t u v from : List ℕ) (b j k : ℕ) → j + 127 * (k + 1) ≤ length from → u ≡ put_words t (127 * b) (take (127 * k) (drop j from)) → v ≡ put_words u (127 * (b + k)) (take 127 (drop (j + 127 * k) from))
    → v ≡ put_words t (127 * b) (take (127 * (k + 1)) (drop j from))
block_turn t u v from b j k h e d =
    let xs : List ℕ = take (127 * k) (drop j from) in
    let ys : List ℕ = take 127 (drop (j + 127 * k) from) in
    let lx : length xs ≡ 127 * k = length-take-le (127 * k) (drop j from) (omega (arith, length-drop j from)) in
    let p : 127 * (b + k) ≡ 127 * b + length xs = omega arith in
    let q : 127 * (k + 1) ≡ 127 * k + 127 = omega arith in
    let s : xs ++ ys ≡ take (127 * (k + 1)) (drop j from) =
    ap (λ (l : List ℕ). xs ++ take 127 l) (sym (drop-drop (127 * k) j from)) ∙ sym (take-add (127 * k) 127 (drop j from)) ∙ ap (λ (m : ℕ). take m (drop j from)) (sym q) in
    d ∙ ap₂ (λ (l : List ℕ) (m : ℕ). put_words l m ys) e p ∙ sym (put_append xs ys t (127 * b)) ∙ ap (put_words t (127 * b)) s

pub length_data_words : (n : ℕ) (image : List ℕ) (i : ℕ) → length (read_words n image i) ≡ n
unfolding read_words
length_data_words zero image i = refl
length_data_words (suc n) image i = ap suc (length_data_words n image (suc i))

pub data_split : (k r : ℕ) (image : List ℕ) (i : ℕ) → read_words (k + r) image i ≡ read_words k image i ++ read_words r image (i + k)
unfolding read_words
data_split zero r image i =
    let e : 0 + r ≡ r = omega arith in
    let f : i ≡ i + 0 = omega arith in
    ap₂ (λ (m k : ℕ). read_words m image k) e f
data_split (suc k) r image i =
    let e : suc k + r ≡ suc (k + r) = omega arith in
    let f : suc i + k ≡ i + suc k = omega arith in
    ap (λ (m : ℕ). read_words m image i) e ∙ ap (λ (l : List ℕ). word_at image (place_of i) ∷ l) (data_split k r image (suc i) ∙ ap (λ (m : ℕ). read_words k image (suc i) ++ read_words r image m) f)

pub data_run : (r : ℕ) (image : List ℕ) (i : ℕ) → i % 127 + r ≤ 127 → read_words r image i ≡ words_at r image (place_of i)
unfolding read_words words_at
data_run zero image i h = refl
data_run (suc zero) image i h = refl
data_run (suc (suc r)) image i h =
    let e : place_of (suc i) ≡ place_of i + 4 = omega arith in
    ap (λ (l : List ℕ). word_at image (place_of i) ∷ l) (data_run (suc r) image (suc i) (omega arith) ∙ ap (λ (k : ℕ). words_at (suc r) image k) e)

pub read_block : (t u v image : List ℕ) (b j k : ℕ) → u ≡ sets t j (read_words (127 * k) image (127 * b)) → v ≡ sets u (j + 127 * k) (words_at 127 image (512 * (b + k)))
    → v ≡ sets t j (read_words (127 * (k + 1)) image (127 * b))
read_block t u v image b j k e d =
    let p : place_of (127 * b + 127 * k) ≡ 512 * (b + k) = omega arith in
    let q : 127 * (k + 1) ≡ 127 * k + 127 = omega arith in
    let r : read_words 127 image (127 * b + 127 * k) ≡ words_at 127 image (512 * (b + k)) = data_run 127 image (127 * b + 127 * k) (omega arith) ∙ ap (words_at 127 image) p in
    d ∙ ap (sets u (j + 127 * k)) (sym r)
    ∙ sets_next t u (read_words (127 * k) image (127 * b)) (read_words 127 image (127 * b + 127 * k)) (read_words (127 * (k + 1)) image (127 * b)) j (j + 127 * k) e (omega (arith, length_data_words (127 * k) image (127 * b)))
    (ap (λ (m : ℕ). read_words m image (127 * b)) q ∙ data_split (127 * k) 127 image (127 * b))

-- ---- tests

-- a sum of digits is zero where each is
digit_zero : (a q : ℕ) → eqb (a + 256 * q) 0 ≡ eqb a 0 && eqb q 0
digit_zero zero zero = refl
digit_zero zero (suc q) = ne_eqb (0 + 256 * suc q) 0 (λ e. omega arith) ∙ sym (ne_eqb (suc q) 0 (λ e. omega arith))
digit_zero (suc a) q = ne_eqb (suc a + 256 * q) 0 (λ e. omega arith) ∙ ap (λ (x : Bool). x && eqb q 0) (sym (ne_eqb (suc a) 0 (λ e. omega arith)))

-- four bytes are zero where their word is
four_zero : (bs : List ℕ) (m : ℕ) → 4 ≤ length bs → all_zero (take (4 * suc m) bs) ≡ eqb (word_at bs 0) 0 && all_zero (take (4 * m) (drop 4 bs))
unfolding all_zero word_at
four_zero [] m h = absurd (omega arith)
four_zero (a ∷ []) m h = absurd (omega arith)
four_zero (a ∷ b ∷ []) m h = absurd (omega arith)
four_zero (a ∷ b ∷ c ∷ []) m h = absurd (omega arith)
four_zero (a ∷ b ∷ c ∷ d ∷ bs) m h =
    let e : 4 * suc m ≡ suc (suc (suc (suc (4 * m)))) = omega arith in
    let rest : Bool = all_zero (take (4 * m) bs) in
    let word : eqb (little (a ∷ b ∷ c ∷ d ∷ [])) 0 ≡ eqb a 0 && (eqb b 0 && (eqb c 0 && (eqb d 0 && true))) =
    digit_zero a (little (b ∷ c ∷ d ∷ [])) ∙ ap (λ (x : Bool). eqb a 0 && x) (digit_zero b (little (c ∷ d ∷ [])) ∙ ap (λ (x : Bool). eqb b 0 && x) (digit_zero c (little (d ∷ [])) ∙ ap (λ (x : Bool). eqb c 0 && x) (digit_zero d 0))) in
    ap (λ (k : ℕ). all_zero (take k (a ∷ b ∷ c ∷ d ∷ bs))) e ∙ sym (spread (eqb a 0) (eqb b 0) (eqb c 0) (eqb d 0) rest) ∙ ap (λ (x : Bool). x && rest) (sym word)
  where
    spread : (p q r s z : Bool) → (p && (q && (r && (s && true)))) && z ≡ p && (q && (r && (s && z)))
    spread false q r s z = refl
    spread true false r s z = refl
    spread true true false s z = refl
    spread true true true false z = refl
    spread true true true true z = refl

pub zero_turn : (image : List ℕ) (at k n : ℕ) → k < n → at + 4 * n ≤ length image
    → all_zero (take (4 * (n - k)) (drop (at + 4 * k) image)) ≡ eqb (word_at image (at + 4 * k)) 0 && all_zero (take (4 * (n - (k + 1))) (drop (at + 4 * (k + 1)) image))
zero_turn image at k n h b =
    let e : n - k ≡ suc (n - (k + 1)) = omega arith in
    let f : at + 4 * k + 4 ≡ at + 4 * (k + 1) = omega arith in
    let g : at + 4 * k + 0 ≡ at + 4 * k = omega arith in
    ap (λ (m : ℕ). all_zero (take (4 * m) (drop (at + 4 * k) image))) e
    ∙ four_zero (drop (at + 4 * k) image) (n - (k + 1)) (omega (arith, length-drop (at + 4 * k) image))
    ∙ ap₂ (λ (x : ℕ) (l : List ℕ). eqb x 0 && all_zero (take (4 * (n - (k + 1))) l)) (word_drop image (at + 4 * k) 0 ∙ ap (word_at image) g) (drop-drop 4 (at + 4 * k) image ∙ ap (λ (m : ℕ). drop m image) f)

pub zero_start : (image : List ℕ) (at n : ℕ) → all_zero (take (4 * (n - 0)) (drop (at + 4 * 0) image)) ≡ all_zero (take (4 * n) (drop at image))
zero_start image at n =
    let e : n - 0 ≡ n = omega arith in
    let f : at + 0 ≡ at = omega arith in
    ap₂ (λ (m k : ℕ). all_zero (take (4 * m) (drop k image))) e f

pub zero_end : (image : List ℕ) (at k n : ℕ) {b : Bool} → n ≤ k → all_zero (take (4 * (n - k)) (drop (at + 4 * k) image)) ≡ b → true ≡ b
unfolding all_zero
zero_end image at k n h e = let z : n - k ≡ 0 = omega arith in rw z at e

pub hold_start : (image : List ℕ) (n : ℕ) → checks_hold (n - 0) (drop (512 * 0) image) ≡ checks_hold n image
hold_start image n = let e : n - 0 ≡ n = omega arith in ap (λ (m : ℕ). checks_hold m image) e

pub hold_end : (image : List ℕ) (k n : ℕ) {b : Bool} → n ≤ k → checks_hold (n - k) (drop (512 * k) image) ≡ b → true ≡ b
unfolding checks_hold
hold_end image k n h e = let z : n - k ≡ 0 = omega arith in rw z at e

pub hold_turn : (image : List ℕ) (k n : ℕ) → k < n
    → checks_hold (n - k) (drop (512 * k) image) ≡ eqb (word_at image (512 * k + 508)) (check (take 508 (drop (512 * k) image))) && checks_hold (n - (k + 1)) (drop (512 * (k + 1)) image)
unfolding checks_hold
hold_turn image k n h =
    let e : n - k ≡ suc (n - (k + 1)) = omega arith in
    let f : 512 * k + 512 ≡ 512 * (k + 1) = omega arith in
    ap (λ (m : ℕ). checks_hold m (drop (512 * k) image)) e
    ∙ ap₂ (λ (x : ℕ) (l : List ℕ). eqb x (check (take 508 (drop (512 * k) image))) && checks_hold (n - (k + 1)) l) (word_drop image (512 * k) 508) (drop-drop 512 (512 * k) image ∙ ap (λ (m : ℕ). drop m image) f)

-- ---- sums

pub sum_turn : (f : ℕ → ℕ) (i s : ℕ) → s ≡ sum i f % 4294967296 → (s + f i) % 4294967296 ≡ sum (i + 1) f % 4294967296
sum_turn f i s e =
    ap (λ (x : ℕ). (x + f i) % 4294967296) e ∙ mod-add-mod (sum i f) 4294967296 (f i) ∙ ap (λ (k : ℕ). sum k f % 4294967296) (sym (add-one i))

-- after the last word the check of the block at a place
pub block_end : (image : List ℕ) (at j s : ℕ) → at + 508 ≤ length image → j ≡ 127 → s ≡ sum j (λ k. word_at image (at + 4 * k)) % 4294967296 → s ≡ check (take 508 (drop at image))
block_end image at j s fits e d =
    let bs : List ℕ = take 508 (drop at image) in
    let l : length bs ≡ 508 = length-take-le 508 (drop at image) (omega (arith, length-drop at image)) in
    let same : sum 127 (λ k. word_at image (at + 4 * k)) ≡ sum 127 (λ k. word_at bs (4 * k)) =
    sum_cong 127 (λ k. word_at image (at + 4 * k)) (λ k. word_at bs (4 * k)) (λ k b. sym (word_take 508 (drop at image) (4 * k) (omega arith) ∙ word_drop image at (4 * k))) in
    d ∙ ap (λ (k : ℕ). sum k (λ m. word_at image (at + 4 * m)) % 4294967296) e ∙ ap (λ (x : ℕ). x % 4294967296) same ∙ sym (block_by_words bs l)
