-- The frame table and the deques at the start.
use Rattle.std.specs.Prelude.{◌≡◌, refl, ◌⊎◌, List, [], ◌∷◌, replicate, eqb}
use Rattle.std.proofs.Common.{sym, ◌∙◌, inl, inr, ⊎_elim, eq-eqb, ne_eqb}
use Rattle.std.proofs.Math.Path.{ap, subst}
use Rattle.std.proofs.Math.Bool.{cond}
use Prim.Native.Nat.{ℕ, zero, suc, ◌+◌, ◌-◌, ◌*◌, ◌≤◌, ◌<◌}
use native.Mathlib.Omega.{arith}
use Rattle.std.proofs.Math.Decide.{ℕ_discrete}
use Rattle.std.proofs.Math.ListN.{length}
use Rattle.std.proofs.lemmas.List.{length-replicate, get_or-replicate}
use Rattle.words.specs.Basics.{none, Chain}
use Rattle.words.specs.Counting.{range}
use Rattle.frames.specs.declared.Frame.{Frame}
use Rattle.frames.specs.Widths.{max_workers, max_places, deque_stride, deque_words}
use Rattle.frames.specs.Frames.{frame_at, set_frame, free_record, main_frame, init_places, init_frames, first_free}
use Rattle.frames.specs.Deques.{size, place, deque_list, init_deques}
use Rattle.frames.proofs.Theory.Records.{length-set_frame, frame-set-same, frame-set_other}
use Rattle.frames.proofs.Theory.Cells.{Shaped, plus_one}
use Rattle.frames.proofs.Theory.Lists.{list_empty, list_elsewhere, push_elsewhere, push-shaped, push_list}
use Rattle.frames.proofs.Theory.Places.{next_free, FreePlaces}
use Rattle.frames.proofs.Theory.Tables.{Formed}
use Rattle.frames.specs.Promises.{table}

-- ---- frames

places_suc : (c : ℕ) (fs : List Frame) (p : ℕ) → p ≤ max_places → init_places (suc c) fs p ≡ init_places c (set_frame fs p (free_record (cond (eqb c 0) none (suc p)))) (suc p)
unfolding init_places
places_suc c fs p h = rw (plus_one p (omega arith))

pub length-init_places : (c : ℕ) (fs : List Frame) (p : ℕ) → length (init_places c fs p) ≡ length fs
unfolding init_places
length-init_places zero fs p = refl
length-init_places (suc c) fs p = length-init_places c _ _ ∙ length-set_frame fs p _

places_out : (c : ℕ) (fs : List Frame) (p q : ℕ) → p + c ≤ max_places → (q < p) ⊎ (p + c ≤ q) → frame_at (init_places c fs p) q ≡ frame_at fs q
unfolding init_places
places_out zero fs p q h o = refl
places_out (suc c) fs p q h o =
    rw (places_suc c fs p (omega arith))
    (places_out c _ (suc p) q (omega arith) (⊎_elim (λ a. inl (omega arith)) (λ a. inr (omega arith)) o) ∙ frame-set_other fs p q _ (⊎_elim (λ a. omega arith) (λ a. omega arith) o))

module _ (N : ℕ) (few : N ≤ max_places) where
  -- the last place links to none
  places_in_lem : (c : ℕ) (fs : List Frame) (p q : ℕ) → length fs ≡ N → p + c ≡ N → p ≤ q → q < N → frame_at (init_places c fs p) q ≡ free_record (cond (eqb q (N - 1)) none (suc q))
  places_in_lem zero fs p q l e a b = absurd (omega arith)
  places_in_lem (suc c) fs p q l e a b =
      rw (places_suc c fs p (omega (arith, few)))
      (elim (ℕ_discrete q p) [
        | yes d ↦ places_out c _ (suc p) q (omega (arith, few)) (inl (omega arith)) ∙ rw d (frame-set-same fs p _ (omega arith) ∙ rw (same (ℕ_discrete c 0)))
        | no d ↦ places_in_lem c _ (suc p) q (length-set_frame fs p _ ∙ l) (omega arith) (omega arith) b
      ])
    where
      same : Dec (c ≡ 0) → eqb c 0 ≡ eqb p (N - 1)
      same (yes z) = eq-eqb c 0 z ∙ sym (eq-eqb p (N - 1) (omega arith))
      same (no z) = ne_eqb c 0 z ∙ sym (ne_eqb p (N - 1) (omega arith))

  -- the places from a to the last, each linked to the next
  rising : (next : ℕ → ℕ) (c a : ℕ) → a + suc c ≡ N → ((q : ℕ) → a ≤ q → q < N → next q ≡ cond (eqb q (N - 1)) none (suc q)) → Chain next N a (range (suc c) a)
  unfolding range
  rising next zero a e h = (refl, omega arith, h a (omega arith) (omega arith) ∙ rw (eq-eqb a (N - 1) (omega arith)))
  rising next (suc c) a e h =
      let n : next a ≡ suc a = h a (omega arith) (omega arith) ∙ rw (ne_eqb a (N - 1) (omega arith)) in
      (refl, omega arith, rw n (rising next c (suc a) (omega arith) (λ q d b. h q (omega arith) b)))

pub length_init : (fs : List Frame) → length (init_frames fs) ≡ length fs
unfolding init_frames
length_init fs = length-init_places (length fs - 1) (set_frame fs 0 (main_frame 0)) 1 ∙ length-set_frame fs 0 (main_frame 0)

module _ (fs : List Frame) (some : 1 ≤ length fs) (few : length fs ≤ max_places) where
  pub init_main : frame_at (init_frames fs) 0 ≡ main_frame 0
  unfolding init_frames
  init_main = places_out (length fs - 1) (set_frame fs 0 (main_frame 0)) 1 0 (omega (arith, some, few)) (inl (omega arith)) ∙ frame-set-same fs 0 (main_frame 0) some

  pub init_free_lem : (p : ℕ) → 1 ≤ p → p < length fs → frame_at (init_frames fs) p ≡ free_record (cond (eqb p (length fs - 1)) none (suc p))
  unfolding init_frames
  init_free_lem p a b = places_in_lem (length fs) few (length fs - 1) (set_frame fs 0 (main_frame 0)) 1 p (length-set_frame fs 0 (main_frame 0)) (omega (arith, some)) a b

  -- "Main in place 0": the other places are free
  pub init_places_lem : FreePlaces (init_frames fs) (first_free (length fs)) (range (length fs - 1) 1)
  unfolding range
  init_places_lem = subst (λ (n : ℕ). Chain (next_free (init_frames fs)) n (first_free (length fs)) (range (length fs - 1) 1)) (sym (length_init fs)) (linked (ℕ_discrete (length fs) 1))
    where
      links : (q : ℕ) → 1 ≤ q → q < length fs → next_free (init_frames fs) q ≡ cond (eqb q (length fs - 1)) none (suc q)
      links q a b = ap (λ (g : Frame). g.parent) (init_free_lem q a b)

      linked : Dec (length fs ≡ 1) → Chain (next_free (init_frames fs)) (length fs) (first_free (length fs)) (range (length fs - 1) 1)
      linked (yes e) = rw e refl
      linked (no e) =
          let c : length fs - 1 ≡ suc (length fs - 2) = omega (arith, some) in
          rw (ne_eqb (length fs) 1 e, c) (rising (length fs) few (next_free (init_frames fs)) (length fs - 2) 1 (omega (arith, some)) links)

-- ---- deques

-- no frame
zeros : List ℕ
zeros = replicate deque_words 0

zeros-size : (w : ℕ) → w < max_workers → size zeros w ≡ 0
unfolding zeros size
zeros-size w h = get_or-replicate deque_words (deque_stride * w) 0 0 (omega arith)

zeros-shaped : Shaped zeros
unfolding zeros size place
zeros-shaped =
    record {
      long = length-replicate {A = ℕ} deque_words 0;
      within = λ w h. omega (arith, zeros-size w h);
      zeros = λ w h k a b. get_or-replicate deque_words (deque_stride * w + (1 + k)) 0 0 (omega arith);
    }

pub init_shaped : Shaped (init_deques (replicate deque_words 0))
unfolding init_deques zeros
init_shaped = push-shaped zeros 0 0 zeros-shaped (omega arith) (omega (arith, zeros-size 0 (omega arith)))

-- "At the start Main, depth 0, is alone on worker 0's deque"
pub init_first : deque_list (init_deques (replicate deque_words 0)) 0 ≡ 0 ∷ []
unfolding init_deques zeros
init_first =
    push_list zeros 0 0 zeros-shaped (omega arith) (omega (arith, zeros-size 0 (omega arith)))
    ∙ ap (λ (l : List ℕ). 0 ∷ l) (list_empty zeros 0 (zeros-size 0 (omega arith)))

pub init_others : (w : ℕ) → 0 < w → w < max_workers → deque_list (init_deques (replicate deque_words 0)) w ≡ []
unfolding init_deques zeros
init_others w a h =
    list_elsewhere zeros-shaped (push_elsewhere zeros 0 0 zeros-shaped (omega arith) (omega (arith, zeros-size 0 (omega arith)))) w h (omega arith)
    ∙ list_empty zeros w (zeros-size w h)

-- ---- both

pub init_formed : (fs : List Frame) → 1 ≤ length fs → length fs ≤ max_places → Formed (table (init_deques (replicate deque_words 0)) (init_frames fs) (first_free (length fs))) (range (length fs - 1) 1)
init_formed fs some few = record { shaped = init_shaped; few = omega (arith, length_init fs, few); places = init_places_lem fs some few }
