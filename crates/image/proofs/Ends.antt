-- The ways out of the functions that save, test and read.
use Rattle.std.specs.Prelude.{Err, Ok}
use mathlib.Core.Path.{◌≡◌, refl, sym, ap, ap₂, subst, ◌∙◌}
use mathlib.Core.Logic.{inl, inr, ◌≢◌, ◌⊎◌}
use mathlib.Core.Bool.{Bool, true, false, not}
use mathlib.Core.List.{List, [], ◌∷◌, ◌++◌, append_assoc, append-nil}
use Prim.Native.Nat.{ℕ, zero, suc, ◌+◌, ◌-◌, ◌*◌, ◌/◌, ◌%◌, ◌<◌, ◌≤◌}
use native.Mathlib.Omega.{arith}
use lib.ListN.{length, get_or, take, drop, replicate, length-append, length-drop, length-replicate, drop_of_length-le}
use lib.Seq.{sets, sets-eq, drop_at, length-take-le, drop-append-add, drop-drop, drop-cons, take-nil}
use lib.Dec.{ltb}
use borrow.Rule.Slice.PartMut.{put_mid}
use borrow.Author.Tests.{ltb-true, ltb-false}
use Rattle.image.specs.declared.ImageError.TheVariants.{WrongLength, WrongCheck}
use Rattle.words.specs.Basics.{plus}
use Rattle.words.specs.Tests.{decided}
use Rattle.frames.specs.declared.Frame.{Frame}
use Rattle.frames.specs.Widths.{record_words}
use Rattle.soundness.specs.Numbers.{number_count}
use Rattle.image.specs.Widths.{node_words, deques_words, state_words, words_for, version, version_step}
use Rattle.image.specs.Image.{node_count, place_count, versioned, deques_for, table_words, image_words, word_bytes, bytes_of, words_of, word_at, check, blocks_for, filled, image_of, image_blocks, image_bytes, first_in, nodes_in, places_in, words_called, blocks_called, wrong_length, data_of, checks_hold, all_zero, rest_of, wrong_check, image_check, words_in, unversioned, number_words_in, pool_in, Lengths, stored}
use Rattle.image.specs.Inner.{place_of, sum_before, with_check, put_words, last_words, read_words}
use Rattle.image.proofs.Theory.Version.{Readable}
use Rattle.image.proofs.Theory.Bytes.{bytes-zeros, length-words, at_words}
use Rattle.image.proofs.Theory.Blocks.{word_drop, word_take, word_front, length_data}
use Rattle.image.proofs.Theory.Parts.{length-table}
use Rattle.image.proofs.Theory.Check.{check-zeros}
use Rattle.image.proofs.Theory.Refused.{right-length, when_17}
use Rattle.image.proofs.Theory.Round.{length-filled, blocks_enough, blocks_needed, good_length, length_pool}
use Rattle.image.proofs.Theory.Written.{length_state, length_image_words, length_image, image_blocks_lem}
use Rattle.image.proofs.Stores.{put_next, put_run, put_last, put_blocks, sum-after, sum-block, sum_word}
use Rattle.soundness.specs.Layout.{two_words}
use Rattle.image.proofs.Theory.Version.{two_version}

-- ---- saving

-- words stored in one block
module _ (xs t u : List ℕ) (i n at before s : ℕ) (l : length xs ≡ n) (fits : place_of i + 4 * n ≤ length t) (ea : at ≡ place_of i) (eb : before ≡ sum_before t i)
    (eu : u ≡ sets t at (bytes_of xs)) (es : s ≡ plus before (check (bytes_of xs))) where
  room_for : place_of i + 4 * length xs ≤ length t
  room_for = omega arith

  laid : u ≡ sets t (place_of i) (bytes_of xs)
  laid = eu ∙ ap (λ (k : ℕ). sets t k (bytes_of xs)) ea

  summed : s ≡ plus (sum_before t i) (check (bytes_of xs))
  summed = es ∙ ap (λ (k : ℕ). plus k (check (bytes_of xs))) eb

  -- the block is not full
  pub run_open : i % 127 + n < 127 → (u ≡ put_words t i xs) × (s ≡ sum_before u (i + n))
  run_open h = (
    laid ∙ sym (put_run xs t i (omega arith)),
    summed ∙ sym (sum-after xs t i room_for (omega arith)) ∙ sym (ap₂ (λ (q : List ℕ) (k : ℕ). sum_before q (i + k)) laid (sym l)),
  )

  -- it is
  pub run_full : (v : List ℕ) (p : ℕ) → i % 127 + n ≡ 127 → p ≡ 512 * (i / 127) + 508 → v ≡ sets u p (word_bytes s) → v ≡ put_words t i xs
  unfolding with_check
  run_full v p h ep d =
      d ∙ ap₂ (λ (k m : ℕ). sets u k (word_bytes m)) ep (summed ∙ sym (sum-block xs t i room_for (omega arith)))
      ∙ ap (λ (q : List ℕ). sets q (512 * (i / 127) + 508) (word_bytes (check (take 508 (drop (512 * (i / 127)) (sets t (place_of i) (bytes_of xs))))))) laid
      ∙ sym (put_last xs t i (omega arith))

-- words over a part
pub part_put : (t zs : List ℕ) (a k : ℕ) → length zs ≡ k → a + k ≤ length t → put_mid a k t zs ≡ sets t a zs
part_put t zs a k lz h =
    let l : a + k ≡ a + length zs = ap (λ (j : ℕ). a + j) (sym lz) in
    ap (λ (q : List ℕ). take a t ++ (zs ++ q)) (drop-drop k a t ∙ ap (λ (j : ℕ). drop j t) l) ∙ sym (append_assoc (take a t) zs (drop (a + length zs) t)) ∙ sym (sets-eq zs t a (omega (arith, l)))

-- zeros up to the end of the last block
module _ (t : List ℕ) (w b s : ℕ) (eb : b ≡ blocks_for w) (fits : 512 * b ≤ length t) (es : s ≡ sum_before t w) where
  pub rest-none : 127 * b - w ≡ 0 → t ≡ put_words t w (replicate (127 * b - w) 0)
  unfolding put_words
  rest-none e = ap (λ (k : ℕ). put_words t w (replicate k 0)) (sym e)

  pub rest-stored : (u v : List ℕ) (p : ℕ) → 127 * b - w ≢ 0 → p ≡ place_of w → u ≡ sets t p (replicate (4 * (127 * b - w)) 0) → v ≡ sets u (512 * b - 4) (word_bytes s)
      → v ≡ put_words t w (replicate (127 * b - w) 0)
  rest-stored u v p h ep eu ev =
      let m : ℕ = 127 * b - w in
      let zs : List ℕ = replicate m 0 in
      let l : length zs ≡ m = length-replicate {A = ℕ} m 0 in
      let c : check (bytes_of zs) ≡ 0 = check-zeros m in
      let s' : s ≡ plus s (check (bytes_of zs)) = omega (arith, sum_word t w) in
      let full : w % 127 + m ≡ 127 = omega (arith, blocks_enough two_words two_version w, blocks_needed two_words two_version w) in
      let here : 512 * b - 4 ≡ 512 * (w / 127) + 508 = omega (arith, blocks_enough two_words two_version w, blocks_needed two_words two_version w) in
      run_full zs t u w m p s s l (omega arith) ep es (eu ∙ ap (sets t p) (sym (bytes-zeros m))) s' v (512 * b - 4) full here ev

-- the nodes, then those zeros
pub after-stored : (t u v ws : List ℕ) (k n s b : ℕ) → s ≡ state_words k → node_words * n ≤ length ws → b ≡ blocks_for (s + node_words * n) → u ≡ put_words t s (take (node_words * n) ws)
    → v ≡ put_words u (s + node_words * n) (replicate (127 * b - (s + node_words * n)) 0) → v ≡ put_words t (state_words k) (last_words two_words k n ws)
after-stored t u v ws k n s b es room eb eu ev =
    let xs : List ℕ = take (node_words * n) ws in
    let e : s + node_words * n ≡ words_for two_words k n = ap (λ (m : ℕ). m + node_words * n) es in
    put_next t u v xs (replicate (127 * b - (s + node_words * n)) 0) s (s + node_words * n) eu (omega (arith, length-take-le (node_words * n) ws room)) ev
    ∙ ap (λ (m : ℕ). put_words t m (xs ++ replicate (127 * b - (s + node_words * n)) 0)) es
    ∙ ap₂ (λ (x y : ℕ). put_words t (state_words k) (xs ++ replicate (127 * x - y) 0)) (eb ∙ ap blocks_for e) e

-- what stands before the table, the table, what stands after it: the image
pub image_stored : (ns ds : List ℕ) (fs : List Frame) (ws t t₁ t₂ t₃ : List ℕ) → Lengths ns ds fs → node_words * node_count ns ≤ length ws → image_bytes two_words (place_count ns) (node_count ns) ≤ length t
    → t₁ ≡ put_words t 0 (versioned two_words ns ++ deques_for (place_count ns) ds) → t₂ ≡ put_words t₁ (number_count + deques_words (place_count ns)) (table_words fs)
    → t₃ ≡ put_words t₂ (state_words (place_count ns)) (last_words two_words (place_count ns) (node_count ns) ws) → t₃ ≡ stored (image_of two_words ns ds fs ws) t
image_stored ns ds fs ws t t₁ t₂ t₃ has room fits e₁ e₂ e₃ =
    let k : ℕ = place_count ns in
    let n : ℕ = image_blocks two_words k (node_count ns) in
    let front : List ℕ = versioned two_words ns ++ deques_for k ds in
    let nodes : List ℕ = take (node_words * node_count ns) ws in
    let rest : ℕ → List ℕ = λ w. replicate (127 * n - w) 0 in
    let w : ℕ = words_for two_words k (node_count ns) in
    let ls : length (front ++ table_words fs) ≡ state_words k = length_state two_words two_version ns ds fs ws has room in
    let lt : length (table_words fs) ≡ record_words * k = length-table fs ∙ ap (λ (m : ℕ). record_words * m) has.frames in
    let lw : length (image_words two_words ns ds fs ws) ≡ w = length_image_words two_words two_version ns ds fs ws has room in
    let d₂ : t₂ ≡ put_words t 0 (front ++ table_words fs) = put_next t t₁ t₂ front (table_words fs) 0 (number_count + deques_words k) e₁ (omega (arith, ls, lt, length-append front (table_words fs))) e₂ in
    let d₃ : t₃ ≡ put_words t 0 (filled n (image_words two_words ns ds fs ws)) =
    put_next t t₂ t₃ (front ++ table_words fs) (nodes ++ rest w) 0 (state_words k) d₂ (omega (arith, ls)) e₃
    ∙ ap (put_words t 0) (sym (append_assoc (front ++ table_words fs) nodes (rest w)) ∙ ap (λ (m : ℕ). image_words two_words ns ds fs ws ++ rest m) (sym lw)) in
    let l : length (filled n (image_words two_words ns ds fs ws)) ≡ 127 * n = length-filled two_words two_version n (image_words two_words ns ds fs ws) (omega (arith, lw, blocks_enough two_words two_version w)) in
    d₃ ∙ put_blocks n (filled n (image_words two_words ns ds fs ws)) t l fits ∙ ap₂ (λ (x : List ℕ) (m : ℕ). x ++ drop m t) (sym (image_blocks_lem two_words two_version ns ds fs ws has room)) (sym (length_image two_words two_version ns ds fs ws has room))

-- ---- 17 and 18

number_at : (image : List ℕ) (i : ℕ) → 512 ≤ length image → i < 127 → word_at image (4 * i) ≡ get_or (words_of (take 508 image)) i 0
number_at image i l b = sym (at_words 127 (take 508 image) (length-take-le 508 image (omega arith)) i b ∙ word_take 508 image (4 * i) (omega arith))

pub first_at_lem : (image : List ℕ) → 512 ≤ length image → word_at image 0 ≡ first_in image
first_at_lem image l = number_at image 0 l (omega arith)

pub places_at : (image : List ℕ) → 512 ≤ length image → word_at image 36 ≡ places_in image
places_at image l = number_at image 9 l (omega arith)

pub nodes_at_lem : (image : List ℕ) → 512 ≤ length image → word_at image 8 ≡ nodes_in image
nodes_at_lem image l = number_at image 2 l (omega arith)

-- the data with a block more
data_snoc : (n : ℕ) (image : List ℕ) → data_of (suc n) image ≡ data_of n image ++ take 508 (drop (512 * n) image)
unfolding data_of
data_snoc zero image = append-nil (take 508 image)
data_snoc (suc n) image =
    let e : 512 + 512 * n ≡ 512 * suc n = omega arith in
    ap (λ (l : List ℕ). take 508 image ++ l) (data_snoc n (drop 512 image) ∙ ap (λ (l : List ℕ). data_of n (drop 512 image) ++ take 508 l) (drop-drop (512 * n) 512 image ∙ ap (λ (k : ℕ). drop k image) e))
    ∙ sym (append_assoc (take 508 image) (data_of n (drop 512 image)) (take 508 (drop (512 * suc n) image)))

drop-take : (r n : ℕ) (l : List ℕ) → drop r (take n l) ≡ take (n - r) (drop r l)
drop-take zero n l = let e : n ≡ n - 0 = omega arith in ap (λ (k : ℕ). take k l) e
drop-take (suc r) zero l = let e : 0 ≡ 0 - suc r = omega arith in ap (λ (k : ℕ). take k (drop (suc r) l)) e
drop-take (suc r) (suc n) [] = sym (take-nil (suc n - suc r))
drop-take (suc r) (suc n) (x ∷ l) = let e : n - r ≡ suc n - suc r = omega arith in drop-take r n l ∙ ap (λ (k : ℕ). take k (drop r l)) e

-- the rest of the last block stands just before its check
rest-place : (n w : ℕ) (image : List ℕ) → 0 < n → 127 * n < w + 127 → w ≤ 127 * n → 512 * n ≤ length image
    → drop (4 * w) (data_of n image) ≡ take (4 * (127 * n - w)) (drop (512 * n - 4 - 4 * (127 * n - w)) image)
rest-place zero w image p a b l = absurd (omega arith)
rest-place (suc n) w image p a b l =
    let d : length (data_of n image) ≡ 508 * n = length_data n image (omega arith) in
    let e : 4 * w ≡ length (data_of n image) + (4 * w - 508 * n) = omega arith in
    let f : 508 - (4 * w - 508 * n) ≡ 4 * (127 * suc n - w) = omega arith in
    let g : 512 * n + (4 * w - 508 * n) ≡ 512 * suc n - 4 - 4 * (127 * suc n - w) = omega arith in
    ap₂ drop e (data_snoc n image)
    ∙ drop-append-add (data_of n image) (take 508 (drop (512 * n) image)) (4 * w - 508 * n)
    ∙ drop-take (4 * w - 508 * n) 508 (drop (512 * n) image)
    ∙ ap₂ take f (drop-drop (4 * w - 508 * n) (512 * n) image ∙ ap (λ (k : ℕ). drop k image) g)

module _ (image : List ℕ) where
  pub checks_wrong : (n : ℕ) → n ≡ blocks_called two_words image → checks_hold n image ≡ false → true ≡ wrong_check two_words image
  unfolding wrong_check
  checks_wrong n en e = let f : checks_hold (blocks_called two_words image) image ≡ false = ap (λ (k : ℕ). checks_hold k image) (sym en) ∙ e in rw f

  pub rest_tested : (n w : ℕ) (z : Bool) → n ≡ blocks_called two_words image → w ≡ words_called two_words image → length image ≡ 512 * n → checks_hold n image ≡ true
      → z ≡ all_zero (take (4 * (127 * n - w)) (drop (512 * n - 4 - 4 * (127 * n - w)) image)) → not z ≡ wrong_check two_words image
  unfolding wrong_check
  rest_tested n w z en ew l c e =
      let c' : checks_hold (blocks_called two_words image) image ≡ true = ap (λ (k : ℕ). checks_hold k image) (sym en) ∙ c in
      let z' : all_zero (rest_of two_words image) ≡ z =
      ap₂ (λ (a b : ℕ). all_zero (drop (4 * a) (data_of b image))) (sym ew) (sym en)
      ∙ ap all_zero (rest-place n w image (omega arith) (omega arith) (omega arith) (omega arith)) ∙ sym e in
      rw (c', z')

  pub too_short : length image < 512 → (Err WrongLength) ≡ image_check two_words image
  too_short h = sym ((when_17 two_words two_version image).1 (inl h))

  pub other_form : (w : ℕ) → w ≡ first_in image → (w < version two_words) ⊎ (version two_words + version_step ≤ w) → (Err WrongLength) ≡ image_check two_words image
  other_form w e (inl h) = sym ((when_17 two_words two_version image).1 (inr (inl (omega arith))))
  other_form w e (inr h) = sym ((when_17 two_words two_version image).1 (inr (inr (inl (omega arith)))))

  pub other_length_lem : (b : ℕ) → b ≡ blocks_called two_words image → length image ≢ 512 * b → (Err WrongLength) ≡ image_check two_words image
  other_length_lem b eb d = sym ((when_17 two_words two_version image).1 (inr (inr (inr (λ e. d (e ∙ ap (λ (k : ℕ). 512 * k) (sym eb)))))))

  tested : (w b : ℕ) → w ≡ first_in image → Readable two_words two_version w → b ≡ blocks_called two_words image → length image ≡ 512 * b → wrong_length two_words image ≡ false
  tested w b ew h eb d = right-length two_words two_version image (record { form = subst (Readable two_words two_version) ew h; long = d ∙ ap (λ (k : ℕ). 512 * k) eb })

  pub is_wrong : (w b : ℕ) → w ≡ first_in image → Readable two_words two_version w → b ≡ blocks_called two_words image → length image ≡ 512 * b → wrong_check two_words image ≡ true → (Err WrongCheck) ≡ image_check two_words image
  unfolding image_check
  is_wrong w b ew h eb d e = rw (tested w b ew h eb d, e)

  pub is_right : (w b : ℕ) → w ≡ first_in image → Readable two_words two_version w → b ≡ blocks_called two_words image → length image ≡ 512 * b → wrong_check two_words image ≡ false → (Ok tt) ≡ image_check two_words image
  unfolding image_check
  is_right w b ew h eb d e = rw (tested w b ew h eb d, e)

-- ---- reading

-- where a word of the data stands
data_place : (n : ℕ) (image : List ℕ) (i : ℕ) → i < 127 * n → 512 * n ≤ length image → word_at (data_of n image) (4 * i) ≡ word_at image (place_of i)
unfolding data_of
data_place zero image i b l = absurd (omega arith)
data_place (suc n) image i b l = elim (decided (ltb i 127)) [
  | inl e ↦ near (ltb-true i 127 e)
  | inr e ↦ far (ltb-false i 127 e) (data_place n (drop 512 image) (i - 127) (omega (arith, ltb-false i 127 e)) (omega (arith, length-drop 512 image)))
]
  where
    near : i < 127 → word_at (take 508 image ++ data_of n (drop 512 image)) (4 * i) ≡ word_at image (place_of i)
    near h = let e : 4 * i ≡ place_of i = omega arith in word_front (take 508 image) (data_of n (drop 512 image)) (4 * i) (omega (arith, length-take-le 508 image (omega arith))) ∙ word_take 508 image (4 * i) (omega arith) ∙ ap (word_at image) e

    far : 127 ≤ i → word_at (data_of n (drop 512 image)) (4 * (i - 127)) ≡ word_at (drop 512 image) (place_of (i - 127)) → word_at (take 508 image ++ data_of n (drop 512 image)) (4 * i) ≡ word_at image (place_of i)
    far h ih =
        let e : 4 * i ≡ 508 + 4 * (i - 127) = omega arith in
        let f : 512 + place_of (i - 127) ≡ place_of i = omega arith in
        ap (word_at (take 508 image ++ data_of n (drop 512 image))) e
        ∙ sym (word_drop (take 508 image ++ data_of n (drop 512 image)) 508 (4 * (i - 127)))
        ∙ ap (λ (q : List ℕ). word_at q (4 * (i - 127))) (drop_at (take 508 image) (data_of n (drop 512 image)) 508 (length-take-le 508 image (omega arith)))
        ∙ ih
        ∙ word_drop image 512 (place_of (i - 127))
        ∙ ap (word_at image) f

words_data : (k n : ℕ) (image : List ℕ) (i : ℕ) → i + k ≤ 127 * n → 512 * n ≤ length image → read_words k image i ≡ take k (drop i (words_of (data_of n image)))
unfolding read_words
words_data zero n image i b l = refl
words_data (suc k) n image i b l =
    let d : length (data_of n image) ≡ 4 * (127 * n) = length_data n image l ∙ omega arith in
    let lw : length (words_of (data_of n image)) ≡ 127 * n = length-words (127 * n) (data_of n image) d in
    let e : get_or (words_of (data_of n image)) i 0 ≡ word_at image (place_of i) = at_words (127 * n) (data_of n image) d i (omega arith) ∙ data_place n image i (omega arith) l in
    ap₂ ◌∷◌ (sym e) (words_data k n image (suc i) (omega arith) l) ∙ ap (take (suc k)) (sym (drop-cons (words_of (data_of n image)) i 0 (omega (arith, lw))))

-- stored in the front
front-stored : (t u xs : List ℕ) → length xs ≤ length t → u ≡ sets t 0 xs → u ≡ stored xs t
front-stored t u xs h e = let z : 0 + length xs ≡ length xs = omega arith in e ∙ sets-eq xs t 0 (omega arith) ∙ ap (λ (k : ℕ). xs ++ drop k t) z

-- a part of just this length
pub all-stored : (t u xs : List ℕ) → length xs ≡ length t → u ≡ sets t 0 xs → u ≡ xs
all-stored t u xs l e =
    let z : drop (length xs) t ≡ [] = drop_of_length-le t {i = length xs} (omega arith) in
    front-stored t u xs (omega arith) e ∙ ap (λ (q : List ℕ). xs ++ q) z ∙ append-nil xs

module _ (image : List ℕ) (good : image_check two_words image ≡ (Ok tt)) where
  -- the words called for stand in the image
  pub fits : (i k : ℕ) → i + k ≤ words_called two_words image → 512 * blocks_for (i + k) ≤ length image
  fits i k h = omega (arith, good_length two_words two_version image good)

  pub these : (k i : ℕ) → i + k ≤ words_called two_words image → read_words k image i ≡ take k (drop i (words_in two_words image))
  these k i b = words_data k (blocks_called two_words image) image i (omega (arith, blocks_enough two_words two_version (words_called two_words image))) (omega (arith, good_length two_words two_version image good))

  pub numbers_fit : 512 * blocks_for number_count ≤ length image
  numbers_fit = fits 0 number_count (omega arith)

  pub numbers_read : (n : ℕ) (u v : List ℕ) → n ≡ number_count → u ≡ read_words n image 0 → v ≡ unversioned u → v ≡ number_words_in two_words image
  numbers_read n u v l e d = d ∙ ap unversioned (e ∙ ap (λ (k : ℕ). read_words k image 0) l ∙ these number_count 0 (omega arith))

  -- the nodes, in the front of a pool that holds them
  pub nodes_read : (ws xs : List ℕ) (i n k : ℕ) → i ≡ state_words (places_in image) → n ≡ nodes_in image → k ≡ node_words * n → xs ≡ read_words k image i → xs ++ drop (node_words * n) ws ≡ stored (pool_in two_words image) ws
  nodes_read ws xs i n k ei en ek e =
      let l : node_words * n ≡ length (pool_in two_words image) = omega (arith, length_pool two_words two_version image good) in
      ap₂ (λ (q : List ℕ) (j : ℕ). q ++ drop j ws) (e ∙ ap₂ (λ (a b : ℕ). read_words a image b) ek ei ∙ ap (λ (a : ℕ). read_words (node_words * a) image (state_words (places_in image))) en ∙ these (node_words * nodes_in image) (state_words (places_in image)) (omega arith)) l
