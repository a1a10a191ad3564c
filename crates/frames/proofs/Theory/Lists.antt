-- A worker's deque as the list of its frames' places: a frame pushed, popped, stolen.
use Rattle.std.specs.Prelude.{◌≡◌, refl, ◌≢◌, ℕ, zero, suc, ◌-◌, ◌≤◌, ◌<◌, length}
use Rattle.std.proofs.Common.{ap, ap₂, ◌∙◌, inr, arith}
use mathlib.Core.List.{List, [], ◌∷◌, tail}
use Rattle.std.proofs.Math.Decide.{ℕ_discrete}
use Rattle.frames.specs.Widths.{max_workers, deque_places, deque_words}
use Rattle.frames.specs.Deques.{size, place, bottom, top, places_to, deque_list, push, pop, shift_up, drop_top}
use Rattle.frames.proofs.Theory.Cells.{Shaped, Elsewhere, elsewhere_trans, shaped_by, plus_one, shift_elsewhere, shift_in, shift_out}
use Rattle.frames.proofs.Theory.Cells.{resized, resized_elsewhere, resized-size, resized_here, resized-rest}

-- all but the last, and the last alone
abbrev pub front {ℓ} : {A : Type ℓ} → List A → List A
front [] = []
front (x ∷ []) = []
front (x ∷ y ∷ l) = x ∷ front (y ∷ l)

abbrev pub last {ℓ} : {A : Type ℓ} → List A → List A
last [] = []
last (x ∷ []) = x ∷ []
last (x ∷ y ∷ l) = last (y ∷ l)

-- ---- the list by its size

places_length : (n : ℕ) (ds : List ℕ) (w : ℕ) → length (places_to n ds w) ≡ n
unfolding places_to
places_length zero ds w = refl
places_length (suc n) ds w = ap suc (places_length n ds w)

pub list_length : (ds : List ℕ) (w : ℕ) → length (deque_list ds w) ≡ size ds w
unfolding deque_list
list_length ds w = places_length (size ds w) ds w

pub list_empty : (ds : List ℕ) (w : ℕ) → size ds w ≡ 0 → deque_list ds w ≡ []
unfolding deque_list places_to
list_empty ds w e = rw e

places_cong : (n : ℕ) (ds ds' : List ℕ) (w v : ℕ) → ((k : ℕ) → k < n → place ds' v k ≡ place ds w k) → places_to n ds' v ≡ places_to n ds w
unfolding places_to
places_cong zero ds ds' w v h = refl
places_cong (suc n) ds ds' w v h = ap₂ ◌∷◌ (h n (omega arith)) (places_cong n ds ds' w v (λ k b. h k (omega arith)))

list_cong : (ds ds' : List ℕ) (w : ℕ) → size ds' w ≡ size ds w → ((k : ℕ) → k < size ds w → place ds' w k ≡ place ds w k) → deque_list ds' w ≡ deque_list ds w
unfolding deque_list
list_cong ds ds' w e h = rw e (places_cong (size ds w) ds ds' w w h)

-- what is stored in worker w's words leaves the other lists
pub list_elsewhere : {ds ds' : List ℕ} {w : ℕ} → Shaped ds → Elsewhere w ds ds' → (v : ℕ) → v < max_workers → v ≢ w → deque_list ds' v ≡ deque_list ds v
list_elsewhere {ds} {ds'} s e v h d = list_cong ds ds' v (e.same_size v d) (λ k b. e.same_place v d k (omega (arith, s.within v h)))

places_cons : (n : ℕ) (ds : List ℕ) (w : ℕ) → 0 < n → places_to n ds w ≡ place ds w (n - 1) ∷ places_to (n - 1) ds w
unfolding places_to
places_cons zero ds w h = absurd (omega arith)
places_cons (suc n) ds w h = let e : suc n - 1 ≡ n = omega arith in rw e

places_tail : (n : ℕ) (ds : List ℕ) (w : ℕ) → places_to (n - 1) ds w ≡ tail (places_to n ds w)
unfolding places_to
places_tail zero ds w = refl
places_tail (suc n) ds w = let e : suc n - 1 ≡ n = omega arith in rw e

places_last : (n : ℕ) (ds : List ℕ) (w : ℕ) → last (places_to (suc n) ds w) ≡ place ds w 0 ∷ []
unfolding places_to
places_last zero ds w = refl
places_last (suc n) ds w = places_last n ds w

-- each place has the frame of the next
places_front : (n : ℕ) (ds ds' : List ℕ) (w : ℕ) → ((k : ℕ) → k < n - 1 → place ds' w k ≡ place ds w (suc k)) → places_to (n - 1) ds' w ≡ front (places_to n ds w)
unfolding places_to
places_front zero ds ds' w h = refl
places_front (suc zero) ds ds' w h = refl
places_front (suc (suc n)) ds ds' w h =
    let e : suc (suc n) - 1 ≡ suc n = omega arith in
    let f : suc n - 1 ≡ n = omega arith in
    rw e (ap₂ ◌∷◌ (h n (omega arith)) (rw f at (places_front (suc n) ds ds' w (λ k b. h k (omega arith)))))

-- "the bottom one is being executed"
pub list_bottom : (ds : List ℕ) (w : ℕ) → 0 < size ds w → deque_list ds w ≡ bottom ds w ∷ tail (deque_list ds w)
unfolding deque_list bottom
list_bottom ds w h = rw (← places_tail (size ds w) ds w) (places_cons (size ds w) ds w h)

pub list_head : (ds : List ℕ) (w p : ℕ) (ps : List ℕ) → deque_list ds w ≡ p ∷ ps → bottom ds w ≡ p
list_head ds w p ps e = let b = list_bottom ds w (omega (arith, list_length ds w, ap length e)) in cc

pub list_top : (ds : List ℕ) (w : ℕ) → 0 < size ds w → last (deque_list ds w) ≡ top ds w ∷ []
unfolding deque_list top
list_top ds w h =
    let e : size ds w ≡ suc (size ds w - 1) = omega arith in
    rw e (places_last (size ds w - 1) ds w)

-- ---- a frame more at the bottom

module _ (ds : List ℕ) (w p : ℕ) (s : Shaped ds) (h : w < max_workers) (r : size ds w < deque_places) where
  push_is : push ds w p ≡ resized ds w (size ds w) p (suc (size ds w))
  unfolding push
  push_is = rw (plus_one (size ds w) (omega arith))

  pub push_elsewhere : Elsewhere w ds (push ds w p)
  push_elsewhere = rw push_is (resized_elsewhere ds w (size ds w) p (suc (size ds w)) s.long h r)

  pub push-size : size (push ds w p) w ≡ suc (size ds w)
  push-size = rw push_is (resized-size ds w (size ds w) p (suc (size ds w)) s.long h r)

  push-place : (k : ℕ) → k ≢ size ds w → k < deque_places → place (push ds w p) w k ≡ place ds w k
  push-place k d b = rw push_is (resized-rest ds w (size ds w) p (suc (size ds w)) s.long h r k d b)

  pub push-shaped : Shaped (push ds w p)
  push-shaped =
      shaped_by ds (push ds w p) w s push_elsewhere (omega (arith, push-size))
      (λ k b c. push-place k (omega (arith, push-size)) c ∙ s.zeros w h k (omega (arith, push-size)) c)

  pub push_list : deque_list (push ds w p) w ≡ p ∷ deque_list ds w
  unfolding deque_list places_to
  push_list =
      rw push-size
      (ap₂ ◌∷◌ (rw push_is (resized_here ds w (size ds w) p (suc (size ds w)) s.long h r)) (places_cong (size ds w) ds (push ds w p) w w (λ k b. push-place k (omega arith) (omega arith))))

-- ---- a frame less: worker w's places are es, of which the last is emptied

elsewhere_refl : (ds : List ℕ) (w : ℕ) → Elsewhere w ds ds
elsewhere_refl ds w = record { same_length = refl; same_size = λ v d. refl; same_place = λ v d j b. refl }

abbrev shrunk : List ℕ → List ℕ → ℕ → List ℕ
shrunk ds es w = resized es w (size ds w - 1) 0 (size ds w - 1)

module _ (ds es : List ℕ) (w : ℕ) (s : Shaped ds) (h : w < max_workers) (e : Elsewhere w ds es) (z : (k : ℕ) → size ds w ≤ k → k < deque_places → place es w k ≡ 0) where
  least : size ds w - 1 < deque_places
  least = omega (arith, s.within w h)

  long : length es ≡ deque_words
  long = e.same_length ∙ s.long

  shrunk_elsewhere : Elsewhere w ds (shrunk ds es w)
  shrunk_elsewhere = elsewhere_trans e (resized_elsewhere es w (size ds w - 1) 0 (size ds w - 1) long h least)

  shrunk_size : size (shrunk ds es w) w ≡ size ds w - 1
  shrunk_size = resized-size es w (size ds w - 1) 0 (size ds w - 1) long h least

  shrunk_place : (k : ℕ) → k ≢ size ds w - 1 → k < deque_places → place (shrunk ds es w) w k ≡ place es w k
  shrunk_place = resized-rest es w (size ds w - 1) 0 (size ds w - 1) long h least

  shrunk_shaped : Shaped (shrunk ds es w)
  shrunk_shaped =
      shaped_by ds (shrunk ds es w) w s shrunk_elsewhere (omega (arith, shrunk_size, least))
      (λ k b c. elim (ℕ_discrete k (size ds w - 1)) [
        | yes q ↦ rw q (resized_here es w (size ds w - 1) 0 (size ds w - 1) long h least)
        | no q ↦ shrunk_place k q c ∙ z k (omega (arith, shrunk_size)) c
      ])

  -- its list has the places that are left
  shrunk_list : deque_list (shrunk ds es w) w ≡ places_to (size ds w - 1) es w
  unfolding deque_list
  shrunk_list = rw shrunk_size (places_cong (size ds w - 1) es (shrunk ds es w) w w (λ k b. shrunk_place k (omega arith) (omega (arith, least))))

-- ---- the bottom frame taken off, and the top frame

module _ (ds : List ℕ) (w : ℕ) (s : Shaped ds) (h : w < max_workers) where
  pub pop_elsewhere : Elsewhere w ds (pop ds w)
  unfolding pop
  pop_elsewhere = shrunk_elsewhere ds ds w s h (elsewhere_refl ds w) (s.zeros w h)

  pub pop-shaped : Shaped (pop ds w)
  unfolding pop
  pop-shaped = shrunk_shaped ds ds w s h (elsewhere_refl ds w) (s.zeros w h)

  pub pop_list : deque_list (pop ds w) w ≡ tail (deque_list ds w)
  unfolding pop deque_list
  pop_list = shrunk_list ds ds w s h (elsewhere_refl ds w) (s.zeros w h) ∙ places_tail (size ds w) ds w

  shifted : List ℕ
  shifted = shift_up (size ds w - 1) ds w 0

  shifted_elsewhere : Elsewhere w ds shifted
  unfolding shifted
  shifted_elsewhere = shift_elsewhere (size ds w - 1) ds w 0 (omega (arith, s.within w h))

  shifted_zeros : (k : ℕ) → size ds w ≤ k → k < deque_places → place shifted w k ≡ 0
  unfolding shifted
  shifted_zeros k b c = shift_out (size ds w - 1) ds w 0 k (omega (arith, s.within w h)) (inr (omega arith)) ∙ s.zeros w h k b c

  pub drop_top_elsewhere : Elsewhere w ds (drop_top ds w)
  unfolding drop_top shifted
  drop_top_elsewhere = shrunk_elsewhere ds shifted w s h shifted_elsewhere shifted_zeros

  pub drop_top-shaped : Shaped (drop_top ds w)
  unfolding drop_top shifted
  drop_top-shaped = shrunk_shaped ds shifted w s h shifted_elsewhere shifted_zeros

  pub drop_top_list : deque_list (drop_top ds w) w ≡ front (deque_list ds w)
  unfolding drop_top shifted deque_list
  drop_top_list =
      shrunk_list ds shifted w s h shifted_elsewhere shifted_zeros
      ∙ places_front (size ds w) ds shifted w (λ k b. shift_in (size ds w - 1) ds w 0 k s.long h (omega (arith, s.within w h)) (omega arith) (omega arith))
