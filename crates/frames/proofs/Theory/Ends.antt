-- The end of a frame: its length, of Main and of another frame, by the number of its siblings.
use Rattle.std.specs.Prelude.{◌≡◌, ◌≢◌, true, false, cond, ℕ, ◌<◌, eqb, length}
use Rattle.std.proofs.Common.{◌∙◌, arith, eq-eqb, ne_eqb}
use Rattle.std.proofs.Math.Logic.{inl, inr}
use mathlib.Core.List.{List}
use Rattle.words.specs.Basics.{none}
use Rattle.words.specs.Tests.{decided}
use Rattle.frames.specs.declared.Frame.{Frame}
use Rattle.frames.specs.Frames.{frame_at, set_frame, without_child, free_record}
use Rattle.frames.specs.Siblings.{relink, first_from, only_child, next_after, join_at}
use Rattle.frames.specs.Steps.{remove_frame, unlink, end_frame}
use Rattle.frames.proofs.Theory.Records.{length-set_frame}
use Rattle.frames.proofs.Theory.Alike.{Alike, alike_trans, join_alike, length_join}
use Rattle.frames.proofs.Theory.Links.{unlink_alike, length-unlink}

pub length_remove : (fs : List Frame) (free p : ℕ) → length (remove_frame fs free p) ≡ length fs
unfolding remove_frame
length_remove fs free p =
    let q : ℕ = (frame_at fs p).parent in
    elim (decided (eqb q none)) [
      | inl e ↦ rw e (length-set_frame fs p (free_record free))
      | inr e ↦ rw e (length-set_frame (set_frame fs p (free_record free)) q (without_child (frame_at fs q)) ∙ length-set_frame fs p (free_record free))
    ]

module _ (fs : List Frame) (free p : ℕ) where
  pub length_end : length (end_frame fs free p) ≡ length fs
  unfolding end_frame
  length_end =
      let gs : List Frame = remove_frame fs free p in
      elim (decided (eqb (frame_at fs p).parent none)) [
        | inl e ↦ rw e (length_remove fs free p)
        | inr e ↦ rw e (length_join (unlink fs p gs) (next_after fs p) (frame_at fs p).view ∙ length-unlink fs p gs ∙ length_remove fs free p)
      ]

  -- of Main
  pub end_last : (frame_at fs p).parent ≡ none → end_frame fs free p ≡ remove_frame fs free p
  unfolding end_frame
  end_last n = rw (eq-eqb (frame_at fs p).parent none n)

  -- of another frame; the next one lives
  module _ (n : (frame_at fs p).parent ≢ none) where
    pub end_joins : end_frame fs free p ≡ join_at (unlink fs p (remove_frame fs free p)) (next_after fs p) (frame_at fs p).view
    unfolding end_frame
    end_joins = rw (ne_eqb (frame_at fs p).parent none n)

    pub end_alike : next_after fs p < length fs → (frame_at (remove_frame fs free p) (next_after fs p)).live ≡ 1 → Alike (remove_frame fs free p) (end_frame fs free p)
    end_alike b v =
        let a = unlink_alike fs p (remove_frame fs free p) in
        rw end_joins (alike_trans a (join_alike (unlink fs p (remove_frame fs free p)) (next_after fs p) (frame_at fs p).view (omega (arith, a.same_length, length_remove fs free p, b)) ((a.same (next_after fs p)).live ∙ v)))

-- by the number of its siblings
module _ (fs : List Frame) (p : ℕ) where
  module _ (e : only_child fs p ≡ true) where
    pub only_unlink : (gs : List Frame) → unlink fs p gs ≡ gs
    only_unlink gs = rw e

    pub only_next : next_after fs p ≡ (frame_at fs p).parent
    unfolding next_after
    only_next = rw e

  module _ (e : only_child fs p ≡ false) where
    pub sibling-unlink : (gs : List Frame) → unlink fs p gs ≡ relink gs (frame_at fs p).parent p (frame_at fs p).younger
    sibling-unlink gs = rw e

    pub sibling-next : next_after fs p ≡ cond (eqb (frame_at fs p).younger none) (frame_at fs p).parent (first_from (length fs) fs (frame_at fs p).younger)
    unfolding next_after
    sibling-next = rw e
