-- A turn of the loops over the frame table, and their ends: for the functions that hold it.
use Rattle.std.specs.Prelude.{Ok}
use mathlib.Core.Path.{◌≡◌, refl, sym, ap, ap₂, ◌∙◌}
use mathlib.Core.List.{List, [], ◌∷◌, ◌++◌, append_assoc, append-nil}
use Prim.Native.Nat.{ℕ, zero, suc, ◌+◌, ◌*◌, ◌<◌, ◌≤◌}
use native.Mathlib.Numerals.{add-one}
use native.Mathlib.Omega.{arith}
use lib.ListN.{length, get_or, take, drop, set}
use lib.Seq.{take-suc, take-length, drop-cons, drop-length, set_at, length-take-le, drop-drop, append_snoc}
use Rattle.frames.specs.declared.Frame.{Frame}
use Rattle.frames.specs.Widths.{record_words}
use Rattle.frames.specs.Frames.{words_of as wordsOfRecord, record_in, set_frame}
use Rattle.soundness.specs.Numbers.{number_count}
use Rattle.image.specs.Widths.{block_bytes, deques_words}
use Rattle.image.specs.Image.{table_words, blocks_for, places_in, image_check, words_in, records_in, frames_in}
use Rattle.image.specs.Inner.{put_words, read_words}
use Rattle.image.proofs.Theory.Parts.{length-table, length_records}
use Rattle.image.proofs.Stores.{put_next}
use Rattle.image.proofs.Ends.{fits, these}
use Rattle.soundness.specs.Layout.{two_words}

-- ---- saving

table-append : (fs gs : List Frame) → table_words (fs ++ gs) ≡ table_words fs ++ table_words gs
unfolding table_words
table-append [] gs = refl
table-append (f ∷ fs) gs = ap (λ (l : List ℕ). wordsOfRecord f ++ l) (table-append fs gs) ∙ sym (append_assoc (wordsOfRecord f) (table_words fs) (table_words gs))

table_snoc : (fs : List Frame) (p : ℕ) (z : Frame) → p < length fs → table_words (take (p + 1) fs) ≡ table_words (take p fs) ++ wordsOfRecord (get_or fs p z)
unfolding table_words
table_snoc fs p z h =
    ap (λ (m : ℕ). table_words (take m fs)) (add-one p) ∙ ap table_words (take-suc fs p z h) ∙ table-append (take p fs) (get_or fs p z ∷ [])
    ∙ ap (λ (l : List ℕ). table_words (take p fs) ++ l) (append-nil (wordsOfRecord (get_or fs p z)))

-- after p records, one more
pub record_stored : (t u v : List ℕ) (fs : List Frame) (p i : ℕ) (z : Frame) → p < length fs → u ≡ put_words t i (table_words (take p fs)) → v ≡ put_words u (i + record_words * p) (wordsOfRecord (get_or fs p z))
    → v ≡ put_words t i (table_words (take (p + 1) fs))
record_stored t u v fs p i z h eu ev =
    put_next t u v (table_words (take p fs)) (wordsOfRecord (get_or fs p z)) i (i + record_words * p) eu (omega (arith, length-table (take p fs), length-take-le p fs (omega arith))) ev
    ∙ ap (put_words t i) (sym (table_snoc fs p z h))

-- before the first
pub no_records : (t : List ℕ) (fs : List Frame) (i : ℕ) → t ≡ put_words t i (table_words (take 0 fs))
unfolding table_words put_words
no_records t fs i = refl

-- ---- reading

record_at : (n : ℕ) (ks : List ℕ) (p : ℕ) (z : Frame) → p < n → get_or (records_in n ks) p z ≡ record_in (take record_words (drop (record_words * p) ks))
unfolding records_in
record_at zero ks p z h = absurd (omega arith)
record_at (suc n) ks zero z h = refl
record_at (suc n) ks (suc p) z h =
    let e : record_words + record_words * p ≡ record_words * suc p = omega arith in
    record_at n (drop record_words ks) p z (omega arith) ∙ ap (λ (l : List ℕ). record_in (take record_words l)) (drop-drop (record_words * p) record_words ks ∙ ap (λ (m : ℕ). drop m ks) e)

pub stored_at : (fs : List Frame) (p : ℕ) (f : Frame) → set_frame fs p f ≡ set fs p f
unfolding set_frame
stored_at fs p f = refl

-- the first p records of gs, then what the table fs had
abbrev pub table_so_far : List Frame → List Frame → ℕ → List Frame
table_so_far gs fs p = take p gs ++ drop p fs

-- one more
table_turn : (gs fs u : List Frame) (p : ℕ) (z : Frame) → p < length gs → length gs ≡ length fs → u ≡ table_so_far gs fs p → set u p (get_or gs p z) ≡ table_so_far gs fs (p + 1)
table_turn gs fs u p z h l e =
    let g : Frame = get_or gs p z in
    let lt : length (take p gs) ≡ p = length-take-le p gs (omega arith) in
    ap (λ (x : List Frame). set x p g) (e ∙ ap (λ (x : List Frame). take p gs ++ x) (drop-cons fs p z (omega arith)))
    ∙ set_at (take p gs) (get_or fs p z) (drop (suc p) fs) g p lt
    ∙ sym (append_snoc (take p gs) g (drop (suc p) fs))
    ∙ ap (λ (x : List Frame). x ++ drop (suc p) fs) (sym (take-suc gs p z h))
    ∙ ap (table_so_far gs fs) (sym (add-one p))

module _ (image : List ℕ) (good : image_check two_words image ≡ (Ok tt)) (k : ℕ) (ek : k ≡ places_in image) where
  -- where the record at place p begins
  abbrev pub record_place : ℕ → ℕ
  record_place p = number_count + deques_words k + record_words * p

  pub record_fits : (p : ℕ) → p < k → block_bytes * blocks_for (number_count + deques_words k + record_words * p + record_words) ≤ length image
  record_fits p h = fits image good (record_place p) record_words (omega (arith, ek))

  -- after p records, one more
  pub record_read : (fs u : List Frame) (f : Frame) (p : ℕ) → p < k → length fs ≡ k → u ≡ table_so_far (frames_in two_words image) fs p → f ≡ record_in (read_words record_words image (number_count + deques_words k + record_words * p))
      → set u p f ≡ table_so_far (frames_in two_words image) fs (p + 1)
  record_read fs u f p h l eu ef =
      let W : List ℕ = words_in two_words image in
      let from : ℕ → ℕ = λ m. number_count + deques_words m in
      let lg : length (frames_in two_words image) ≡ places_in image = length_records (places_in image) (drop (from (places_in image)) W) in
      let is : f ≡ get_or (frames_in two_words image) p f =
      ef ∙ ap record_in (these image good record_words (record_place p) (omega (arith, ek)) ∙ ap (take record_words) (sym (drop-drop (record_words * p) (from k) W)))
      ∙ ap (λ (m : ℕ). record_in (take record_words (drop (record_words * p) (drop (from m) W)))) ek
      ∙ sym (record_at (places_in image) (drop (from (places_in image)) W) p f (omega (arith, ek))) in
      ap (λ (x : Frame). set u p x) is ∙ table_turn (frames_in two_words image) fs u p f (omega (arith, ek, lg)) (omega (arith, ek, lg)) eu

  pub table_read : (fs u : List Frame) (p : ℕ) → p ≡ k → length fs ≡ k → u ≡ table_so_far (frames_in two_words image) fs p → u ≡ frames_in two_words image
  table_read fs u p ep l e =
      let W : List ℕ = words_in two_words image in
      let lg : length (frames_in two_words image) ≡ places_in image = length_records (places_in image) (drop (number_count + deques_words (places_in image)) W) in
      e ∙ ap₂ (λ (a b : ℕ). take a (frames_in two_words image) ++ drop b fs) (ep ∙ ek ∙ sym lg) (ep ∙ sym l)
      ∙ ap₂ ◌++◌ (take-length (frames_in two_words image)) (drop-length fs) ∙ append-nil (frames_in two_words image)
