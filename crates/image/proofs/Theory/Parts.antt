-- The deques and the frame table as words of an image, and back.
use Rattle.std.specs.Prelude.{◌≡◌, refl, List, [], ◌∷◌, ◌++◌, ℕ, zero, suc, ◌+◌, ◌-◌, ◌*◌, ◌<◌, ◌≤◌, length, get_or, take, drop, replicate}
use Rattle.std.proofs.Common.{sym, ap, ap₂, ◌∙◌, append_assoc, append-nil, suc-mul, arith, length-append, length-drop, take-append-drop, take_at, drop_at, length-take-le, get_or-drop, get_or-take, take-add, drop-drop}
use Rattle.std.proofs.lemmas.List.{length-replicate}
use Rattle.words.specs.Below.{Words, below-take, below-drop, below-append}
use Rattle.frames.specs.declared.Frame.{Frame}
use Rattle.frames.specs.Widths.{record_words, deque_places, deque_stride}
use Rattle.frames.specs.Frames.{words_of as wordsOfRecord, frame_at}
use Rattle.frames.proofs.Theory.Records.{words_in_lem}
use Rattle.frames.proofs.Theory.RecordWords.{RecordWords, words_of_lem}
use Rattle.image.specs.Image.{deques_of, table_words, lent_deques, records_in}

-- ---- the deques

-- past their first k places there are zeros: n deques one after the other
abbrev pub ZerosAfter : ℕ → ℕ → List ℕ → Type 0
ZerosAfter n k ds = (w j : ℕ) → w < n → k ≤ j → j < deque_places → get_or ds (deque_stride * w + (1 + j)) 0 ≡ 0

pub length-deques_of : (n k : ℕ) (ds : List ℕ) → k ≤ deque_places → deque_stride * n ≤ length ds → length (deques_of n k ds) ≡ n * (1 + k)
unfolding deques_of
length-deques_of zero k ds h e = omega arith
length-deques_of (suc n) k ds h e =
    omega (arith, length-append (take (1 + k) ds) (deques_of n k (drop deque_stride ds)), length-take-le (1 + k) ds (omega arith), length-deques_of n k (drop deque_stride ds) h (omega (arith, length-drop deque_stride ds)), suc-mul n (1 + k))

pub words-deques_of : (n k : ℕ) (ds : List ℕ) → Words ds → Words (deques_of n k ds)
unfolding deques_of
words-deques_of zero k ds h = λ i. omega arith
words-deques_of (suc n) k ds h =
    below-append 4294967296 (take (1 + k) ds) (deques_of n k (drop deque_stride ds)) (below-take 4294967296 (1 + k) ds (omega arith) h)
    (words-deques_of n k (drop deque_stride ds) (below-drop 4294967296 deque_stride ds h))

all-zeros : (r : ℕ) (xs : List ℕ) → length xs ≡ r → ((i : ℕ) → i < r → get_or xs i 0 ≡ 0) → replicate r 0 ≡ xs
all-zeros zero [] l z = refl
all-zeros zero (x ∷ xs) l z = absurd (omega arith)
all-zeros (suc r) [] l z = absurd (omega arith)
all-zeros (suc r) (x ∷ xs) l z = ap₂ ◌∷◌ (sym (z 0 (omega arith))) (all-zeros r xs (omega arith) (λ i b. z (suc i) (omega arith)))

-- a deque with its places past the first k
module _ (k : ℕ) (ds : List ℕ) (h : k ≤ deque_places) (l : deque_stride ≤ length ds) (z : ZerosAfter 1 k ds) where
  abbrev r : ℕ
  r = deque_places - k

  past_zero : (i : ℕ) → i < r → get_or (take r (drop (1 + k) ds)) i 0 ≡ 0
  past_zero i b =
      let e : 1 + k + i ≡ deque_stride * 0 + (1 + (k + i)) = omega arith in
      get_or-take r (drop (1 + k) ds) i 0 b ∙ get_or-drop (1 + k) ds i 0 ∙ ap (λ (m : ℕ). get_or ds m 0) e ∙ z 0 (k + i) (omega arith) (omega arith) (omega arith)

  deque_whole : take (1 + k) ds ++ replicate (deque_places - k) 0 ≡ take deque_stride ds
  deque_whole =
      let e : 1 + k + r ≡ deque_stride = omega arith in
      ap (λ (l : List ℕ). take (1 + k) ds ++ l) (all-zeros r (take r (drop (1 + k) ds)) (length-take-le r (drop (1 + k) ds) (omega (arith, length-drop (1 + k) ds))) past_zero)
      ∙ sym (take-add (1 + k) r ds) ∙ ap (λ (m : ℕ). take m ds) e

-- the deques that follow
zeros_later : (n k : ℕ) (ds : List ℕ) → ZerosAfter (suc n) k ds → ZerosAfter n k (drop deque_stride ds)
zeros_later n k ds z w j b p q =
    let e : deque_stride + (deque_stride * w + (1 + j)) ≡ deque_stride * suc w + (1 + j) = omega arith in
    get_or-drop deque_stride ds (deque_stride * w + (1 + j)) 0 ∙ ap (λ (m : ℕ). get_or ds m 0) e ∙ z (suc w) j (omega arith) p q

-- written and read
pub deques_back : (n k : ℕ) (ds rest : List ℕ) → k ≤ deque_places → length ds ≡ deque_stride * n → ZerosAfter n k ds → lent_deques n k (deques_of n k ds ++ rest) ≡ ds
unfolding deques_of lent_deques
deques_back zero k [] rest h e z = refl
deques_back zero k (d ∷ ds) rest h e z = absurd (omega arith)
deques_back (suc n) k ds rest h e z =
    let front : List ℕ = take (1 + k) ds in
    let ds' : List ℕ = drop deque_stride ds in
    let more : List ℕ = deques_of n k ds' in
    let lf : length front ≡ 1 + k = length-take-le (1 + k) ds (omega arith) in
    let t : take (1 + k) (front ++ more ++ rest) ≡ front = ap (take (1 + k)) (append_assoc front more rest) ∙ take_at front (more ++ rest) (1 + k) lf in
    let d : drop (1 + k) (front ++ more ++ rest) ≡ more ++ rest = ap (drop (1 + k)) (append_assoc front more rest) ∙ drop_at front (more ++ rest) (1 + k) lf in
    let again : lent_deques n k (more ++ rest) ≡ ds' = deques_back n k ds' rest h (omega (arith, length-drop deque_stride ds)) (zeros_later n k ds z) in
    ap₂ (λ (a b : List ℕ). a ++ replicate (deque_places - k) 0 ++ lent_deques n k b) t d
    ∙ ap (λ (l : List ℕ). front ++ replicate (deque_places - k) 0 ++ l) again
    ∙ ap (λ (l : List ℕ). l ++ ds') (deque_whole k ds h (omega arith) (λ w j b. z w j (omega arith)))
    ∙ take-append-drop deque_stride ds

-- one deque as it is lent
module _ (k : ℕ) (ks : List ℕ) (h : k ≤ deque_places) (l : 1 + k ≤ length ks) where
  lent-front : length (take (1 + k) ks) ≡ 1 + k
  lent-front = length-take-le (1 + k) ks l

  lent_one : length (take (1 + k) ks ++ replicate (deque_places - k) 0) ≡ deque_stride
  lent_one = omega (arith, length-append (take (1 + k) ks) (replicate (deque_places - k) 0), lent-front, length-replicate {A = ℕ} (deque_places - k) 0)

pub length-lent : (n k : ℕ) (ks : List ℕ) → k ≤ deque_places → n * (1 + k) ≤ length ks → length (lent_deques n k ks) ≡ deque_stride * n
unfolding lent_deques
length-lent zero k ks h l = refl
length-lent (suc n) k ks h l =
    let s : suc n * (1 + k) ≡ n * (1 + k) + (1 + k) = suc-mul n (1 + k) in
    omega (arith, length-append (take (1 + k) ks ++ replicate (deque_places - k) 0) (lent_deques n k (drop (1 + k) ks)), lent_one k ks h (omega arith), length-lent n k (drop (1 + k) ks) h (omega (arith, length-drop (1 + k) ks)))

-- read and written again
pub deques_again : (n k : ℕ) (ks : List ℕ) → k ≤ deque_places → n * (1 + k) ≤ length ks → deques_of n k (lent_deques n k ks) ≡ take (n * (1 + k)) ks
unfolding deques_of lent_deques
deques_again zero k ks h l = let e : 0 * (1 + k) ≡ 0 = omega arith in ap (λ (m : ℕ). take m ks) (sym e)
deques_again (suc n) k ks h l =
    let s : suc n * (1 + k) ≡ 1 + k + n * (1 + k) = omega (arith, suc-mul n (1 + k)) in
    let front : List ℕ = take (1 + k) ks in
    let zs : List ℕ = replicate (deque_places - k) 0 in
    let more : List ℕ = lent_deques n k (drop (1 + k) ks) in
    let b : 1 + k ≤ length ks = omega arith in
    let t : take (1 + k) (front ++ zs ++ more) ≡ front = ap (take (1 + k)) (append_assoc front zs more) ∙ take_at front (zs ++ more) (1 + k) (lent-front k ks h b) in
    let d : drop deque_stride (front ++ zs ++ more) ≡ more = drop_at (front ++ zs) more deque_stride (lent_one k ks h b) in
    ap₂ (λ (x y : List ℕ). x ++ deques_of n k y) t d
    ∙ ap (λ (l : List ℕ). front ++ l) (deques_again n k (drop (1 + k) ks) h (omega (arith, length-drop (1 + k) ks)))
    ∙ sym (take-add (1 + k) (n * (1 + k)) ks) ∙ ap (λ (m : ℕ). take m ks) (sym s)

-- one deque more
pub deques_snoc : (n k : ℕ) (ds : List ℕ) → deques_of (suc n) k ds ≡ deques_of n k ds ++ take (1 + k) (drop (deque_stride * n) ds)
unfolding deques_of
deques_snoc zero k ds = append-nil (take (1 + k) ds)
deques_snoc (suc n) k ds =
    let e : deque_stride + deque_stride * n ≡ deque_stride * suc n = omega arith in
    ap (λ (l : List ℕ). take (1 + k) ds ++ l) (deques_snoc n k (drop deque_stride ds))
    ∙ sym (append_assoc (take (1 + k) ds) (deques_of n k (drop deque_stride ds)) (take (1 + k) (drop (deque_stride * n) (drop deque_stride ds))))
    ∙ ap (λ (l : List ℕ). take (1 + k) ds ++ deques_of n k (drop deque_stride ds) ++ take (1 + k) l) (drop-drop (deque_stride * n) deque_stride ds ∙ ap (λ (m : ℕ). drop m ds) e)

pub lent_snoc : (n k : ℕ) (ks : List ℕ) → lent_deques (suc n) k ks ≡ lent_deques n k ks ++ (take (1 + k) (drop (n * (1 + k)) ks) ++ replicate (deque_places - k) 0)
unfolding lent_deques
lent_snoc zero k ks = let e : 0 * (1 + k) ≡ 0 = omega arith in append-nil (take (1 + k) ks ++ replicate (deque_places - k) 0) ∙ ap (λ (m : ℕ). take (1 + k) (drop m ks) ++ replicate (deque_places - k) 0) (sym e)
lent_snoc (suc n) k ks =
    let e : 1 + k + n * (1 + k) ≡ suc n * (1 + k) = omega (arith, suc-mul n (1 + k)) in
    let one : List ℕ = take (1 + k) ks ++ replicate (deque_places - k) 0 in
    let more : List ℕ = drop (1 + k) ks in
    ap (λ (l : List ℕ). one ++ l) (lent_snoc n k more)
    ∙ sym (append_assoc one (lent_deques n k more) (take (1 + k) (drop (n * (1 + k)) more) ++ replicate (deque_places - k) 0))
    ∙ ap (λ (l : List ℕ). one ++ lent_deques n k more ++ (take (1 + k) l ++ replicate (deque_places - k) 0)) (drop-drop (n * (1 + k)) (1 + k) ks ∙ ap (λ (m : ℕ). drop m ks) e)

-- ---- the frame table

pub length-table : (fs : List Frame) → length (table_words fs) ≡ record_words * length fs
unfolding table_words
length-table [] = refl
length-table (f ∷ fs) = omega (arith, length-append (wordsOfRecord f) (table_words fs), length-table fs)

pub words-table : (fs : List Frame) → RecordWords fs → Words (table_words fs)
unfolding table_words frame_at
words-table [] h = λ i. omega arith
words-table (f ∷ fs) h = below-append 4294967296 (wordsOfRecord f) (table_words fs) (words_of_lem f (h 0)) (words-table fs (λ p. h (suc p)))

-- written and read
pub table_back : (fs : List Frame) (rest : List ℕ) → records_in (length fs) (table_words fs ++ rest) ≡ fs
unfolding table_words records_in
table_back [] rest = refl
table_back (f ∷ fs) rest = ap (λ (l : List Frame). f ∷ l) (table_back fs rest)

pub length_records : (n : ℕ) (ks : List ℕ) → length (records_in n ks) ≡ n
unfolding records_in
length_records zero ks = refl
length_records (suc n) ks = ap suc (length_records n (drop record_words ks))

-- read and written again
pub table_again : (n : ℕ) (ks : List ℕ) → record_words * n ≤ length ks → table_words (records_in n ks) ≡ take (record_words * n) ks
unfolding table_words records_in
table_again zero ks l = refl
table_again (suc n) ks l =
    let e : record_words + record_words * n ≡ record_words * suc n = omega arith in
    ap₂ ◌++◌ (words_in_lem (take record_words ks) (length-take-le record_words ks (omega arith))) (table_again n (drop record_words ks) (omega (arith, length-drop record_words ks)))
    ∙ sym (take-add record_words (record_words * n) ks) ∙ ap (λ (m : ℕ). take m ks) e
