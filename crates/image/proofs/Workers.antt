-- A turn of the loops over the deques, and their ends.
use Rattle.std.specs.Prelude.{Ok}
use mathlib.Core.Path.{◌≡◌, sym, ap, ap₂, ◌∙◌}
use mathlib.Core.List.{List, ◌++◌, append_assoc, append-nil}
use Prim.Native.Nat.{ℕ, suc, ◌+◌, ◌-◌, ◌*◌, ◌<◌, ◌≤◌}
use native.Mathlib.Nat.{suc-mul, mul-le-mul_right}
use native.Mathlib.Numerals.{add-one}
use native.Mathlib.Omega.{arith}
use lib.ListN.{length, take, drop, replicate, length-append, length-replicate, replicate-append-replicate}
use lib.Seq.{sets, sets-eq, take_at, drop_at, drop-drop}
use Rattle.frames.specs.Widths.{max_workers, deque_places, deque_stride, deque_words}
use Rattle.soundness.specs.Numbers.{number_count}
use Rattle.image.specs.Widths.{block_bytes, deques_words}
use Rattle.image.specs.Image.{blocks_for, deques_of, places_in, image_check, words_in, lent_deques, deques_in}
use Rattle.image.specs.Inner.{put_words, read_words}
use Rattle.image.proofs.Theory.Parts.{length-deques_of, deques_snoc, length-lent, lent_snoc}
use Rattle.image.proofs.Theory.Round.{after_numbers}
use Rattle.image.proofs.Stores.{put_next}
use Rattle.image.proofs.Loops.{length_data_words}
use Rattle.image.proofs.Ends.{fits, these}
use Rattle.soundness.specs.Layout.{two_words}
use Rattle.image.proofs.Theory.Version.{two_version}

-- worker w's words are among those of all workers
pub one_more : (w k : ℕ) → w < max_workers → w * (1 + k) + (1 + k) ≤ deques_words k
one_more w k h = omega (arith, suc-mul w (1 + k), mul-le-mul_right (1 + k) h)

-- where the next one's begin
pub next-deque : (w k n : ℕ) → n ≡ 1 + k → number_count + w * (1 + k) + n ≡ number_count + (w + 1) * (1 + k)
next-deque w k n e = let s : (w + 1) * (1 + k) ≡ suc w * (1 + k) = ap (λ (m : ℕ). m * (1 + k)) (add-one w) in omega (arith, e, s, suc-mul w (1 + k))

-- ---- saving

pub deque-stored : (t u v ds : List ℕ) (k w : ℕ) → k ≤ deque_places → length ds ≡ deque_words → w < max_workers → u ≡ put_words t number_count (deques_of w k ds)
    → v ≡ put_words u (number_count + w * (1 + k)) (take (1 + k) (drop (deque_stride * w) ds)) → v ≡ put_words t number_count (deques_of (w + 1) k ds)
deque-stored t u v ds k w h l b eu ev =
    let xs : List ℕ = deques_of w k ds in
    let ys : List ℕ = take (1 + k) (drop (deque_stride * w) ds) in
    let p : number_count + w * (1 + k) ≡ number_count + length xs = omega (arith, length-deques_of w k ds h (omega arith)) in
    put_next t u v xs ys number_count (number_count + w * (1 + k)) eu p ev ∙ ap (put_words t number_count) (sym (deques_snoc w k ds) ∙ ap (λ (m : ℕ). deques_of m k ds) (sym (add-one w)))

-- ---- reading

-- the deques of the first w workers, then zeros
abbrev pub read_so_far : List ℕ → ℕ → ℕ → List ℕ
read_so_far image k w = lent_deques w k (drop number_count (words_in two_words image)) ++ replicate (deque_stride * (max_workers - w)) 0

-- n words stored where zeros stand
over_zeros : (L vs : List ℕ) (a n r q m : ℕ) → length L ≡ a → length vs ≡ n → m ≡ n + (r + q) → sets (L ++ replicate m 0) a vs ≡ L ++ (vs ++ replicate r 0) ++ replicate q 0
over_zeros L vs a n r q m la lv em =
    let R : List ℕ = replicate r 0 in
    let Q : List ℕ = replicate q 0 in
    let u : List ℕ = L ++ replicate m 0 in
    let z : replicate m 0 ≡ replicate n 0 ++ (R ++ Q) =
    ap (λ (x : ℕ). replicate x 0) em ∙ sym (replicate-append-replicate {A = ℕ} n (r + q) 0) ∙ ap (λ (l : List ℕ). replicate n 0 ++ l) (sym (replicate-append-replicate {A = ℕ} r q 0)) in
    let d : drop (a + length vs) u ≡ R ++ Q =
    ap (λ (x : ℕ). drop (a + x) u) lv ∙ sym (drop-drop n a u) ∙ ap (drop n) (drop_at L (replicate m 0) a la ∙ z) ∙ drop_at (replicate n 0) (R ++ Q) n (length-replicate {A = ℕ} n 0) in
    sets-eq vs u a (omega (arith, length-append L (replicate m 0), length-replicate {A = ℕ} m 0))
    ∙ ap₂ (λ (x y : List ℕ). x ++ vs ++ y) (take_at L (replicate m 0) a la) d
    ∙ sym (append_assoc (L ++ vs) R Q) ∙ ap (λ (l : List ℕ). l ++ Q) (append_assoc L vs R)

module _ (image : List ℕ) (good : image_check two_words image ≡ (Ok tt)) (k : ℕ) (ek : k ≡ places_in image) (most : k ≤ deque_places) where
  pub none_read : (u : List ℕ) → u ≡ replicate deque_words 0 → u ≡ read_so_far image k 0
  unfolding lent_deques
  none_read u e = e

  module _ (w i : ℕ) (b : w < max_workers) (ei : i ≡ number_count + w * (1 + k)) where
    pub deque-fits : block_bytes * blocks_for (i + (1 + k)) ≤ length image
    deque-fits = fits image good i (1 + k) (omega (arith, ei, ek, one_more w k b))

    pub deque_read : (u v : List ℕ) → u ≡ read_so_far image k w → v ≡ sets u (deque_stride * w) (read_words (1 + k) image i) → v ≡ read_so_far image k (w + 1)
    deque_read u v eu ev =
        let W : List ℕ = words_in two_words image in
        let X : List ℕ = drop number_count W in
        let L : List ℕ = lent_deques w k X in
        let vs : List ℕ = read_words (1 + k) image i in
        let ll : length L ≡ deque_stride * w = length-lent w k X most (omega (arith, ek, one_more w k b, after_numbers two_words two_version image good (omega (arith, ek, most)))) in
        let es : vs ≡ take (1 + k) (drop (w * (1 + k)) X) =
        these image good (1 + k) i (omega (arith, ei, ek, one_more w k b)) ∙ ap (λ (m : ℕ). take (1 + k) (drop m W)) ei ∙ ap (take (1 + k)) (sym (drop-drop (w * (1 + k)) number_count W)) in
        let q : ℕ = deque_stride * (max_workers - (w + 1)) in
        ev ∙ ap (λ (l : List ℕ). sets l (deque_stride * w) vs) eu
        ∙ over_zeros L vs (deque_stride * w) (1 + k) (deque_places - k) q (deque_stride * (max_workers - w)) ll (length_data_words (1 + k) image i) (omega arith)
        ∙ ap (λ (l : List ℕ). L ++ (l ++ replicate (deque_places - k) 0) ++ replicate q 0) es
        ∙ ap (λ (l : List ℕ). l ++ replicate q 0) (sym (lent_snoc w k X) ∙ ap (λ (m : ℕ). lent_deques m k X) (sym (add-one w)))

  pub all-deques : (u : List ℕ) (w : ℕ) → w ≡ max_workers → u ≡ read_so_far image k w → u ≡ deques_in two_words image
  all-deques u w ew e = e ∙ ap (read_so_far image k) ew ∙ append-nil (lent_deques max_workers k (drop number_count (words_in two_words image))) ∙ ap (λ (m : ℕ). lent_deques max_workers m (drop number_count (words_in two_words image))) ek
