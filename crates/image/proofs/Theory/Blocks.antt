-- Data as blocks and back.
use Rattle.std.specs.Prelude.{◌≡◌, refl, true, List, [], ◌∷◌, ◌++◌, ℕ, zero, suc, ◌+◌, ◌*◌, ◌<◌, ◌≤◌, length, take, drop}
use Rattle.std.proofs.Common.{sym, ap, ap₂, ◌∙◌, append_assoc, arith, add_assoc, length-append, length-drop, take-append-drop, take_at, drop_at, length-take-le, get_or-drop, get_or-take, take-add, eq-eqb, eqb-true}
use Rattle.std.proofs.Math.Numerals.{unary_clauses}
use Rattle.std.proofs.Math.ListN.{get_or-append}
use Rattle.words.specs.Tests.{both}
use Rattle.model.specs.Record.{little}
use Rattle.image.specs.Image.{word_bytes, word_at, check, block, blocks_of, data_of, checks_hold}
pub use Rattle.words.specs.Below.{below-drop, below-take, below-append}
use Rattle.image.proofs.Theory.Bytes.{Bytes, word_back, bytes_back}

-- ---- a word at a place

word_at_front : (bs : List ℕ) (a b c d : ℕ) (ys : List ℕ) → word_at (bs ++ (a ∷ b ∷ c ∷ d ∷ ys)) (length bs) ≡ little (a ∷ b ∷ c ∷ d ∷ [])
unfolding word_at
word_at_front [] a b c d ys = refl
word_at_front (x ∷ bs) a b c d ys = simp unary_clauses (simp unary_clauses at (word_at_front bs a b c d ys))

pub word_drop : (bs : List ℕ) (n at : ℕ) → word_at (drop n bs) at ≡ word_at bs (n + at)
unfolding word_at
word_drop bs n at = rw (get_or-drop n bs at 0, get_or-drop n bs (at + 1) 0, get_or-drop n bs (at + 2) 0, get_or-drop n bs (at + 3) 0) (simp add_assoc refl)

pub word_take : (k : ℕ) (bs : List ℕ) (at : ℕ) → at + 4 ≤ k → word_at (take k bs) at ≡ word_at bs at
unfolding word_at
word_take k bs at h = rw (get_or-take k bs at 0 (omega arith), get_or-take k bs (at + 1) 0 (omega arith), get_or-take k bs (at + 2) 0 (omega arith), get_or-take k bs (at + 3) 0 (omega arith)) refl

pub word_front : (xs ys : List ℕ) (at : ℕ) → at + 4 ≤ length xs → word_at (xs ++ ys) at ≡ word_at xs at
unfolding word_at
word_front xs ys at h = rw (get_or-append xs ys 0 at (omega arith), get_or-append xs ys 0 (at + 1) (omega arith), get_or-append xs ys 0 (at + 2) (omega arith), get_or-append xs ys 0 (at + 3) (omega arith)) refl

check-below : (bs : List ℕ) → check bs < 4294967296
unfolding check
check-below bs = omega arith

length_word : (bs : List ℕ) (w : ℕ) → length (bs ++ word_bytes w) ≡ length bs + 4
length_word bs w = length-append bs (word_bytes w)

-- ---- blocks of data, and the data of blocks

pub length_blocks : (n : ℕ) (bs : List ℕ) → length bs ≡ 508 * n → length (blocks_of n bs) ≡ 512 * n
unfolding blocks_of
length_blocks zero bs e = refl
length_blocks (suc n) bs e =
    omega (arith, length-append (block (take 508 bs)) (blocks_of n (drop 508 bs)), length_word (take 508 bs) (check (take 508 bs)), length-take-le 508 bs (omega arith), length_blocks n (drop 508 bs) (omega (arith, length-drop 508 bs)))

module _ (bs : List ℕ) (l : 508 ≤ length bs) (ys : List ℕ) where
  front : List ℕ
  front = take 508 bs

  first : length (block (take 508 bs)) ≡ 512
  first = omega (arith, length_word (take 508 bs) (check (take 508 bs)), length-take-le 508 bs l)

  block-drop : drop 512 (block (take 508 bs) ++ ys) ≡ ys
  block-drop = drop_at (block (take 508 bs)) ys 512 first

  block_data : take 508 (block (take 508 bs) ++ ys) ≡ take 508 bs
  block_data = ap (take 508) (append_assoc (take 508 bs) (word_bytes (check (take 508 bs))) ys) ∙ take_at (take 508 bs) (word_bytes (check (take 508 bs)) ++ ys) 508 (length-take-le 508 bs l)

  block-check : word_at (block (take 508 bs) ++ ys) 508 ≡ check (take 508 bs)
  block-check =
      ap₂ word_at (append_assoc (take 508 bs) (word_bytes (check (take 508 bs))) ys) (sym (length-take-le 508 bs l))
      ∙ word_at_front (take 508 bs) _ _ _ _ ys
      ∙ word_back (check (take 508 bs)) (check-below (take 508 bs))

pub data_back : (n : ℕ) (bs : List ℕ) → length bs ≡ 508 * n → data_of n (blocks_of n bs) ≡ bs
unfolding blocks_of data_of
data_back zero [] e = refl
data_back zero (b ∷ bs) e = absurd (omega arith)
data_back (suc n) bs e =
    let l : 508 ≤ length bs = omega arith in
    ap₂ ◌++◌ (block_data bs l (blocks_of n (drop 508 bs))) (ap (data_of n) (block-drop bs l (blocks_of n (drop 508 bs))) ∙ data_back n (drop 508 bs) (omega (arith, length-drop 508 bs)))
    ∙ take-append-drop 508 bs

pub checks_back : (n : ℕ) (bs : List ℕ) → length bs ≡ 508 * n → checks_hold n (blocks_of n bs) ≡ true
unfolding blocks_of checks_hold
checks_back zero bs e = refl
checks_back (suc n) bs e =
    let l : 508 ≤ length bs = omega arith in
    let rest : List ℕ = blocks_of n (drop 508 bs) in
    let h : checks_hold n (drop 512 (block (take 508 bs) ++ rest)) ≡ true = ap (checks_hold n) (block-drop bs l rest) ∙ checks_back n (drop 508 bs) (omega (arith, length-drop 508 bs)) in
    let q : word_at (block (take 508 bs) ++ rest) 508 ≡ check (take 508 (block (take 508 bs) ++ rest)) = block-check bs l rest ∙ ap check (sym (block_data bs l rest)) in
    rw (eq-eqb _ _ q, h)

pub length_data : (n : ℕ) (image : List ℕ) → 512 * n ≤ length image → length (data_of n image) ≡ 508 * n
unfolding data_of
length_data zero image e = refl
length_data (suc n) image e =
    omega (arith, length-append (take 508 image) (data_of n (drop 512 image)), length-take-le 508 image (omega arith), length_data n (drop 512 image) (omega (arith, length-drop 512 image)))

-- four bytes at a place
four_at : (bs : List ℕ) → 4 ≤ length bs → Bytes bs → take 4 bs ≡ word_bytes (word_at bs 0)
unfolding word_at
four_at [] l h = absurd (omega arith)
four_at (a ∷ []) l h = absurd (omega arith)
four_at (a ∷ b ∷ []) l h = absurd (omega arith)
four_at (a ∷ b ∷ c ∷ []) l h = absurd (omega arith)
four_at (a ∷ b ∷ c ∷ d ∷ bs) l h = sym (bytes_back a b c d (h 0) (h 1) (h 2) (h 3))

pub blocks_back : (n : ℕ) (image : List ℕ) → length image ≡ 512 * n → Bytes image → checks_hold n image ≡ true → blocks_of n (data_of n image) ≡ image
unfolding blocks_of data_of checks_hold
blocks_back zero [] e h k = refl
blocks_back zero (b ∷ bs) e h k = absurd (omega arith)
blocks_back (suc n) image e h k =
    let t : List ℕ = take 508 image in
    let rest : List ℕ = drop 512 image in
    let l : length t ≡ 508 = length-take-le 508 image (omega arith) in
    let both_hold = both _ _ k in
    let c : word_at image 508 ≡ check t = eqb-true _ _ both_hold.0 in
    let d : take 508 (t ++ data_of n rest) ≡ t = take_at t (data_of n rest) 508 l in
    let f : drop 508 (t ++ data_of n rest) ≡ data_of n rest = drop_at t (data_of n rest) 508 l in
    let s : word_bytes (check t) ≡ take 4 (drop 508 image) = sym (four_at (drop 508 image) (omega (arith, length-drop 508 image)) (below-drop 256 508 image h) ∙ ap word_bytes (word_drop image 508 0 ∙ c)) in
    let g : t ++ take 4 (drop 508 image) ≡ take 512 image = sym (take-add 508 4 image) in
    ap₂ ◌++◌ (ap block d ∙ ap (λ (x : List ℕ). t ++ x) s ∙ g)
    (ap (blocks_of n) f ∙ blocks_back n rest (omega (arith, length-drop 512 image)) (below-drop 256 512 image h) both_hold.1)
    ∙ take-append-drop 512 image
