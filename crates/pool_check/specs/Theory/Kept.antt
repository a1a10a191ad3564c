-- What the check keeps of the work slice: its length and the words from N on; and cleared again it is as cleared before.
use Rattle.std.specs.Prelude.{◌≡◌, false, List, leb, length}
use Rattle.std.proofs.Common.{inl, inr, leb-true}
use Rattle.std.proofs.Math.Bool.{and-false}
use Prim.Native.Nat.{ℕ, zero, suc, ◌*◌}
use Rattle.words.specs.Tests.{decided}
use Rattle.sizes.specs.Sizes.{height}
use Rattle.frames.specs.declared.Frame.{Frame}
use Rattle.frames.specs.Frames.{frame_at}
use Rattle.soundness.specs.Soundness.{lives, cleared}
use Rattle.pool_check.specs.Reading.{Reading}
use Rattle.pool_check.specs.Answer.{in_bounds}
use Rattle.pool_check.specs.Algorithm.{visit_place, visit_places, run_check}
use Rattle.pool_check.specs.Theory.Ways.{Keeps, keeps_refl, keeps_trans, place-live, place_free_lem, visit_keeps, run_out, run_off, run_on_lem}
use Rattle.pool_check.specs.Theory.Cleared.{clear_no, clear_keeps, clear_same}

module _ (R : Reading) where
  module _ (n N : ℕ) (fs : List Frame) (ws : List ℕ) where
    place_keeps : (p : ℕ) (w : List ℕ) → Keeps N w (visit_place R n (height n) N fs ws p w).0
    place_keeps p w = elim (decided (lives fs p)) [
      | inl e ↦ rw (place-live R n (height n) N fs ws p w e) (visit_keeps R N ws (height n) n (frame_at fs p).root w)
      | inr e ↦ rw (place_free_lem R n (height n) N fs ws p w e) keeps_refl
    ]

    pub places_keeps : (c : ℕ) (w : List ℕ) → Keeps N w (visit_places R n (height n) N fs ws c w).0
    unfolding visit_places
    places_keeps zero w = keeps_refl
    places_keeps (suc c) w = elim (decided (visit_places R n (height n) N fs ws c w).1) [
      | inl e ↦ rw e (keeps_trans (places_keeps c w) (place_keeps c (visit_places R n (height n) N fs ws c w).0))
      | inr e ↦ rw e (places_keeps c w)
    ]

  module _ (n N first : ℕ) (fs : List Frame) (ws w : List ℕ) where
    pub run_keeps : Keeps N w (run_check R n N first fs ws w).0
    run_keeps = elim (decided (in_bounds R.layout n N ws w)) [
      | inl e ↦ elim (decided (visit_places R n (height n) N fs ws (length fs) w).1) [
        | inl t ↦ rw (run_on_lem R n N first fs ws w e t) (places_keeps n N fs ws (length fs) w)
        | inr t ↦ rw (run_off R n N first fs ws w e t) (places_keeps n N fs ws (length fs) w)
      ]
      | inr e ↦ rw (run_out R n N first fs ws w e) keeps_refl
    ]

  pub run_work : (n N first : ℕ) (fs : List Frame) (ws w : List ℕ) → cleared N (run_check R n N first fs ws (cleared N w)).0 ≡ cleared N w
  run_work n N first fs ws w = elim (decided (leb N (length w))) [
    | inl e ↦ clear_same N w (run_check R n N first fs ws (cleared N w)).0 (leb-true N (length w) e) (keeps_trans (clear_keeps N w) (run_keeps n N first fs ws (cleared N w)))
    | inr e ↦ rw (clear_no N w e, run_out R n N first fs ws w (out e)) (clear_no N w e)
  ]
    where
      out : leb N (length w) ≡ false → in_bounds R.layout n N ws w ≡ false
      out e = rw (e, and-false (leb (R.layout.words * N) (length ws)), and-false (leb N 16384), and-false (leb n 256))
