-- The list of free places: after a record is stored, a place is taken, a place is freed.
use Rattle.std.specs.Prelude.{◌≡◌, refl, List, ◌∷◌, ℕ, ◌<◌, length}
use Rattle.std.proofs.Common.{sym, ap, subst, arith}
use Rattle.words.specs.Basics.{Chain}
use Rattle.words.specs.Counting.{count}
use Rattle.words.specs.Chains.{chain_cong}
use Rattle.frames.specs.declared.Frame.{Frame}
use Rattle.frames.specs.Frames.{frame_at, set_frame, free_record}
use Rattle.frames.proofs.Theory.Records.{length-set_frame, frame-set-same, frame-set_other}

-- a free place links to the next
abbrev pub next_free : List Frame → ℕ → ℕ
next_free fs p = (frame_at fs p).parent

-- gs are the free places in order, the first of them at free
abbrev pub FreePlaces : List Frame → ℕ → List ℕ → Type 0
FreePlaces fs free gs = Chain (next_free fs) (length fs) free gs

module _ (fs : List Frame) (free p : ℕ) (gs : List ℕ) (out : count p gs ≡ 0) (ch : FreePlaces fs free gs) where
  -- a record stored at a place that is not among them
  pub free_elsewhere : (f : Frame) → FreePlaces (set_frame fs p f) free gs
  free_elsewhere f =
      subst (λ (n : ℕ). Chain (next_free (set_frame fs p f)) n free gs) (sym (length-set_frame fs p f))
      (chain_cong (length fs) (next_free fs) (next_free (set_frame fs p f)) gs free
      (λ x b o. ap (λ (g : Frame). g.parent) (frame-set_other fs p x f (λ e. omega (arith, ap (λ y. count y gs) e)))) ch)

  -- "the last node freed is the first taken. Frame places are taken and freed the same way"
  pub free_put : p < length fs → FreePlaces (set_frame fs p (free_record free)) p (p ∷ gs)
  free_put h =
      let e : free ≡ next_free (set_frame fs p (free_record free)) p = sym (ap (λ (g : Frame). g.parent) (frame-set-same fs p (free_record free) h)) in
      (refl, omega (arith, length-set_frame fs p (free_record free)), subst (λ (a : ℕ). FreePlaces (set_frame fs p (free_record free)) a gs) e (free_elsewhere (free_record free)))
