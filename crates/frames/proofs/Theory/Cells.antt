-- The words of the deques after a store, and the deques' shape.
use Rattle.std.specs.Prelude.{◌≡◌, refl, ◌≢◌, ◌⊎◌, List, ℕ, zero, suc, ◌+◌, ◌*◌, ◌≤◌, ◌<◌, length}
use Rattle.std.proofs.Common.{◌∙◌, inl, inr, ⊎_elim, mod-eq_of_lt, add-one, arith}
use Rattle.std.proofs.Math.Decide.{ℕ_discrete}
use Rattle.std.proofs.Math.ListN.{length-set}
use Rattle.std.proofs.Math.Seq.{get_or-set_same, get_or-set_other}
use Rattle.words.specs.Basics.{none, plus}
use Rattle.frames.specs.Widths.{max_workers, deque_places, deque_stride, deque_words}
use Rattle.frames.specs.Deques.{size, set_size, place, set_place, shift_up}

-- document 01: "deque places past a deque's frames are zero"
pub record Shaped (ds : List ℕ) : Type 0 where
  pub long : length ds ≡ deque_words
  pub within : (w : ℕ) → w < max_workers → size ds w ≤ deque_places
  pub zeros : (w : ℕ) → w < max_workers → (k : ℕ) → size ds w ≤ k → k < deque_places → place ds w k ≡ 0

pub plus_one : (n : ℕ) → n < none → plus n 1 ≡ suc n
plus_one n h = mod-eq_of_lt (omega arith) ∙ add-one n

-- ---- one store

module _ (ds : List ℕ) (w : ℕ) where
  pub length-set_size : (c : ℕ) → length (set_size ds w c) ≡ length ds
  unfolding set_size
  length-set_size c = length-set ds (deque_stride * w) c

  pub length-set_place : (k p : ℕ) → length (set_place ds w k p) ≡ length ds
  unfolding set_place
  length-set_place k p = length-set ds (deque_stride * w + (1 + k)) p

  pub size-set_size-same : (c : ℕ) → length ds ≡ deque_words → w < max_workers → size (set_size ds w c) w ≡ c
  unfolding size set_size
  size-set_size-same c l h = get_or-set_same ds (deque_stride * w) c 0 (omega arith)

  pub size-set_size_worker : (c v : ℕ) → v ≢ w → size (set_size ds w c) v ≡ size ds v
  unfolding size set_size
  size-set_size_worker c v h = get_or-set_other ds (deque_stride * w) (deque_stride * v) c 0 (omega arith)

  pub size-set_place : (k p v : ℕ) → k < deque_places → size (set_place ds w k p) v ≡ size ds v
  unfolding size set_place
  size-set_place k p v h = get_or-set_other ds (deque_stride * w + (1 + k)) (deque_stride * v) p 0 (omega arith)

  pub place-set_size : (c v j : ℕ) → j < deque_places → place (set_size ds w c) v j ≡ place ds v j
  unfolding place set_size
  place-set_size c v j h = get_or-set_other ds (deque_stride * w) (deque_stride * v + (1 + j)) c 0 (omega arith)

  pub place-set_place-same : (k p : ℕ) → length ds ≡ deque_words → w < max_workers → k < deque_places → place (set_place ds w k p) w k ≡ p
  unfolding place set_place
  place-set_place-same k p l h b = get_or-set_same ds (deque_stride * w + (1 + k)) p 0 (omega arith)

  pub place-set_place_other : (k p j : ℕ) → j ≢ k → place (set_place ds w k p) w j ≡ place ds w j
  unfolding place set_place
  place-set_place_other k p j h = get_or-set_other ds (deque_stride * w + (1 + k)) (deque_stride * w + (1 + j)) p 0 (omega arith)

  pub place-set_place_worker : (k p v j : ℕ) → v ≢ w → k < deque_places → j < deque_places → place (set_place ds w k p) v j ≡ place ds v j
  unfolding place set_place
  place-set_place_worker k p v j h b c = get_or-set_other ds (deque_stride * w + (1 + k)) (deque_stride * v + (1 + j)) p 0 (omega arith)

-- ---- what is stored in one worker's words leaves the other workers'

pub record Elsewhere (w : ℕ) (ds ds' : List ℕ) : Type 0 where
  pub same_length : length ds' ≡ length ds
  pub same_size : (v : ℕ) → v ≢ w → size ds' v ≡ size ds v
  pub same_place : (v : ℕ) → v ≢ w → (j : ℕ) → j < deque_places → place ds' v j ≡ place ds v j

pub elsewhere_trans : {w : ℕ} {ds es fs : List ℕ} → Elsewhere w ds es → Elsewhere w es fs → Elsewhere w ds fs
elsewhere_trans e f =
    record {
      same_length = f.same_length ∙ e.same_length;
      same_size = λ v h. f.same_size v h ∙ e.same_size v h;
      same_place = λ v h j b. f.same_place v h j b ∙ e.same_place v h j b;
    }

pub elsewhere_set_place : (ds : List ℕ) (w k p : ℕ) → k < deque_places → Elsewhere w ds (set_place ds w k p)
elsewhere_set_place ds w k p h =
    record {
      same_length = length-set_place ds w k p;
      same_size = λ v d. size-set_place ds w k p v h;
      same_place = λ v d j b. place-set_place_worker ds w k p v j d h b;
    }

pub elsewhere_set_size : (ds : List ℕ) (w c : ℕ) → Elsewhere w ds (set_size ds w c)
elsewhere_set_size ds w c =
    record {
      same_length = length-set_size ds w c;
      same_size = λ v d. size-set_size_worker ds w c v d;
      same_place = λ v d j b. place-set_size ds w c v j b;
    }

-- the other deques keep their shape
pub shaped_by : (ds ds' : List ℕ) (w : ℕ) → Shaped ds → Elsewhere w ds ds' → size ds' w ≤ deque_places → ((k : ℕ) → size ds' w ≤ k → k < deque_places → place ds' w k ≡ 0) → Shaped ds'
shaped_by ds ds' w s e b z =
    record {
      long = e.same_length ∙ s.long;
      within = λ v h. elim (ℕ_discrete v w) [
        | yes q ↦ rw q b
        | no q ↦ rw (e.same_size v q) (s.within v h)
      ];
      zeros = λ v h k c d. elim (ℕ_discrete v w) [
        | yes q ↦ rw q (z k (rw q at c) d)
        | no q ↦ e.same_place v q k d ∙ s.zeros v h k (rw (e.same_size v q) at c) d
      ];
    }

-- ---- a place of worker w and its length stored

abbrev pub resized : List ℕ → ℕ → ℕ → ℕ → ℕ → List ℕ
resized ds w k p c = set_size (set_place ds w k p) w c

module _ (ds : List ℕ) (w k p c : ℕ) (l : length ds ≡ deque_words) (h : w < max_workers) (b : k < deque_places) where
  pub resized_elsewhere : Elsewhere w ds (resized ds w k p c)
  resized_elsewhere = elsewhere_trans (elsewhere_set_place ds w k p b) (elsewhere_set_size (set_place ds w k p) w c)

  pub resized-size : size (resized ds w k p c) w ≡ c
  resized-size = size-set_size-same (set_place ds w k p) w c (length-set_place ds w k p ∙ l) h

  pub resized_here : place (resized ds w k p c) w k ≡ p
  resized_here = place-set_size (set_place ds w k p) w c w k b ∙ place-set_place-same ds w k p l h b

  pub resized-rest : (j : ℕ) → j ≢ k → j < deque_places → place (resized ds w k p c) w j ≡ place ds w j
  resized-rest j d e = place-set_size (set_place ds w k p) w c w j e ∙ place-set_place_other ds w k p j d

-- ---- the places that move up

pub shift_suc : (c : ℕ) (ds : List ℕ) (w k : ℕ) → k < deque_places → shift_up (suc c) ds w k ≡ shift_up c (set_place ds w k (place ds w (suc k))) w (suc k)
unfolding shift_up
shift_suc c ds w k h = rw (plus_one k (omega arith))

pub shift_elsewhere : (c : ℕ) (ds : List ℕ) (w k : ℕ) → k + c ≤ deque_places → Elsewhere w ds (shift_up c ds w k)
unfolding shift_up
shift_elsewhere zero ds w k h = record { same_length = refl; same_size = λ v d. refl; same_place = λ v d j b. refl }
shift_elsewhere (suc c) ds w k h =
    rw (shift_suc c ds w k (omega arith))
    (elsewhere_trans (elsewhere_set_place ds w k _ (omega arith)) (shift_elsewhere c _ w (suc k) (omega arith)))

pub shift_out : (c : ℕ) (ds : List ℕ) (w k j : ℕ) → k + c ≤ deque_places → (j < k) ⊎ (k + c ≤ j) → place (shift_up c ds w k) w j ≡ place ds w j
unfolding shift_up
shift_out zero ds w k j h o = refl
shift_out (suc c) ds w k j h o =
    rw (shift_suc c ds w k (omega arith))
    (shift_out c _ w (suc k) j (omega arith) (⊎_elim (λ a. inl (omega arith)) (λ a. inr (omega arith)) o) ∙ place-set_place_other ds w k _ j (⊎_elim (λ a. omega arith) (λ a. omega arith) o))

pub shift_in : (c : ℕ) (ds : List ℕ) (w k j : ℕ) → length ds ≡ deque_words → w < max_workers → k + c ≤ deque_places → k ≤ j → j < k + c → place (shift_up c ds w k) w j ≡ place ds w (suc j)
shift_in zero ds w k j l h b a d = absurd (omega arith)
shift_in (suc c) ds w k j l h b a d =
    rw (shift_suc c ds w k (omega arith))
    (elim (ℕ_discrete j k) [
      | yes e ↦ shift_out c _ w (suc k) j (omega arith) (inl (omega arith)) ∙ rw e (place-set_place-same ds w k _ l h (omega arith))
      | no e ↦ shift_in c _ w (suc k) j (length-set_place ds w k _ ∙ l) h (omega arith) (omega arith) (omega arith) ∙ place-set_place_other ds w k _ (suc j) (omega arith)
    ])
