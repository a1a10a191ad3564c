-- Each record after the end of a frame that is not Main: its own place is free, an elder sibling's link passes over it, its view joins that of the next one, and
-- all else stays but for its parent's number of live children.
use Rattle.std.specs.Prelude.{◌≡◌, refl, ◌≢◌, Bool, true, false, cond, ◌&&◌, List, ℕ, ◌<◌, eqb, length}
use Rattle.std.proofs.Common.{sym, ap, ap₂, ◌∙◌, inl, inr, arith}
use Rattle.std.proofs.Math.Decide.{ℕ_discrete}
use borrow.Author.Tests.{ne_eqb}
use Rattle.words.specs.Basics.{none}
use Rattle.words.specs.Tests.{decided}
use Rattle.reducers.specs.declared.View.{View}
use Rattle.reducers.specs.Reducers.{join_view}
use Rattle.frames.specs.declared.Frame.{Frame}
use Rattle.frames.specs.Frames.{frame_at, set_frame, with_view, with_younger, without_child, free_record}
use Rattle.frames.specs.Siblings.{live_child, younger, names, only_child, next_after, join_at}
use Rattle.frames.specs.Steps.{remove_frame, unlink, end_frame}
use Rattle.frames.proofs.Theory.Records.{length-set_frame, frame-set-same, frame-set_other}
use Rattle.frames.proofs.Theory.Alike.{join_same, join_other}
use Rattle.frames.proofs.Theory.Links.{unlink_alike, length-unlink, names-live, relink_view, relink_record}
use Rattle.frames.proofs.Theory.Ends.{length_remove, end_joins}

module _ (fs : List Frame) (free p : ℕ) (b : p < length fs) (q : ℕ) (up : (frame_at fs p).parent ≡ q) (n : q ≢ none) (bq : q < length fs) (qp : q ≢ p) where
  abbrev gs : List Frame
  gs = remove_frame fs free p

  pub removed_is : gs ≡ set_frame (set_frame fs p (free_record free)) q (without_child (frame_at fs q))
  unfolding remove_frame
  removed_is = rw (up, ne_eqb q none n)

  pub removed_own : frame_at gs p ≡ free_record free
  removed_own = ap (λ (hs : List Frame). frame_at hs p) removed_is ∙ frame-set_other _ q p _ (λ e. qp (sym e)) ∙ frame-set-same fs p (free_record free) b

  pub removed_parent : frame_at gs q ≡ without_child (frame_at fs q)
  removed_parent = ap (λ (hs : List Frame). frame_at hs q) removed_is ∙ frame-set-same _ q _ (omega (arith, length-set_frame fs p (free_record free), bq))

  -- a part that the parent's record keeps
  removed_part : {A : Type 0} (part : Frame → A) → ((f : Frame) → part (without_child f) ≡ part f) → (x : ℕ) → x ≢ p → part (frame_at gs x) ≡ part (frame_at fs x)
  removed_part part h x d = elim (ℕ_discrete x q) [
    | yes e ↦ ap (λ (y : ℕ). part (frame_at gs y)) e ∙ ap part removed_parent ∙ h (frame_at fs q) ∙ ap (λ (y : ℕ). part (frame_at fs y)) (sym e)
    | no e ↦ ap part (ap (λ (hs : List Frame). frame_at hs x) removed_is ∙ frame-set_other _ q x _ e ∙ frame-set_other fs p x _ d)
  ]

  abbrev hs : List Frame
  hs = unlink fs p gs

  -- the table keeps its length
  long_gs : length gs ≡ length fs
  long_gs = length_remove fs free p

  long_hs : length hs ≡ length fs
  long_hs = length-unlink fs p gs ∙ long_gs

  -- ---- the links

  abbrev link_after : ℕ → ℕ
  link_after x = cond (only_child fs p) (younger fs x) (cond (names fs q p x) (younger fs p) (younger fs x))

  child_kept : (x : ℕ) → x ≢ p → live_child gs q x ≡ live_child fs q x
  child_kept x d = ap₂ (λ (v w : ℕ). eqb v 1 && eqb w q) (removed_part (λ (f : Frame). f.live) (λ f. refl) x d) (removed_part (λ (f : Frame). f.parent) (λ f. refl) x d)

  younger_kept : (x : ℕ) → x ≢ p → younger gs x ≡ younger fs x
  younger_kept x d = removed_part (λ (f : Frame). f.younger) (λ f. refl) x d

  -- the frame's own place names nobody
  names_kept : (x : ℕ) → names gs q p x ≡ true → names fs q p x ≡ true
  names_kept x t = ap₂ (λ (b : Bool) (z : ℕ). b && eqb z p) (sym (child_kept x d)) (sym (younger_kept x d)) ∙ t
    where
      d : x ≢ p
      d e = omega (arith, names-live gs q p x t, ap (λ (y : ℕ). (frame_at gs y).live) e, ap (λ (f : Frame). f.live) removed_own)

  -- one child at most of the same parent names the frame
  abbrev NamedOnce : Type 0
  NamedOnce = (c d : ℕ) → c < length fs → d < length fs → names fs q p c ≡ true → names fs q p d ≡ true → c ≡ d

  link_unlinked : NamedOnce → (x : ℕ) → x ≢ p → younger hs x ≡ link_after x
  link_unlinked once x d = elim (decided (only_child fs p)) [
    | inl e ↦ rw e (younger_kept x d)
    | inr e ↦ rw (e, up) (ap (λ (f : Frame). f.younger) (relink_record gs q p (younger fs p) still x) ∙ picks (names gs q p x) ∙ same_test)
  ]
    where
      still : (c d : ℕ) → c < length gs → d < length gs → names gs q p c ≡ true → names gs q p d ≡ true → c ≡ d
      still c d b k t u = once c d (omega (arith, long_gs)) (omega (arith, long_gs)) (names_kept c t) (names_kept d u)

      picks : (t : Bool) → (cond t (with_younger (frame_at gs x) (younger fs p)) (frame_at gs x)).younger ≡ cond t (younger fs p) (younger gs x)
      picks true = refl
      picks false = refl

      same_test : cond (names gs q p x) (younger fs p) (younger gs x) ≡ cond (names fs q p x) (younger fs p) (younger fs x)
      same_test = rw (child_kept x d, younger_kept x d)

  view_unlinked : (x : ℕ) → x ≢ p → (frame_at hs x).view ≡ (frame_at fs x).view
  view_unlinked x d = elim (decided (only_child fs p)) [
    | inl e ↦ rw e (removed_part (λ (f : Frame). f.view) (λ f. refl) x d)
    | inr e ↦ rw (e, up) (relink_view gs q p (younger fs p) x ∙ removed_part (λ (f : Frame). f.view) (λ f. refl) x d)
  ]

  -- ---- after the join; m is the next one

  module _ (m : ℕ) (next : next_after fs p ≡ m) (bm : m < length fs) where
    abbrev es : List Frame
    es = end_frame fs free p

    ended_is : es ≡ join_at hs m (frame_at fs p).view
    ended_is = end_joins fs free p (λ z. n (sym up ∙ z)) ∙ ap (λ (k : ℕ). join_at hs k (frame_at fs p).view) next

    -- a part that is not the view
    joined_part : {A : Type 0} (part : Frame → A) → ((f : Frame) (w : View) → part (with_view f w) ≡ part f) → (x : ℕ) → part (frame_at es x) ≡ part (frame_at hs x)
    joined_part part h x = ap (λ (ks : List Frame). part (frame_at ks x)) ended_is ∙ elim (ℕ_discrete x m) [
      | yes e ↦ ap (λ (y : ℕ). part (frame_at (join_at hs m (frame_at fs p).view) y)) e ∙ ap part (join_same hs m (frame_at fs p).view (omega (arith, long_hs, bm))) ∙ h (frame_at hs m) _ ∙ ap (λ (y : ℕ). part (frame_at hs y)) (sym e)
      | no e ↦ ap part (join_other hs m x (frame_at fs p).view e)
    ]

    unlinked_alike_live : (x : ℕ) → (frame_at hs x).live ≡ (frame_at gs x).live
    unlinked_alike_live x = ((unlink_alike fs p gs).same x).live

    pub ended-live : (x : ℕ) → x ≢ p → (frame_at es x).live ≡ (frame_at fs x).live
    ended-live x d = joined_part (λ (f : Frame). f.live) (λ f w. refl) x ∙ unlinked_alike_live x ∙ removed_part (λ (f : Frame). f.live) (λ f. refl) x d

    pub ended_parent : (x : ℕ) → x ≢ p → (frame_at es x).parent ≡ (frame_at fs x).parent
    ended_parent x d =
        joined_part (λ (f : Frame). f.parent) (λ f w. refl) x ∙ ((unlink_alike fs p gs).same x).parent
        ∙ removed_part (λ (f : Frame). f.parent) (λ f. refl) x d

    pub ended_own : (frame_at es p).live ≡ 0
    ended_own = joined_part (λ (f : Frame). f.live) (λ f w. refl) p ∙ unlinked_alike_live p ∙ ap (λ (f : Frame). f.live) removed_own

    pub ended-link : NamedOnce → (x : ℕ) → x ≢ p → younger es x ≡ cond (only_child fs p) (younger fs x) (cond (names fs q p x) (younger fs p) (younger fs x))
    ended-link once x d = joined_part (λ (f : Frame). f.younger) (λ f w. refl) x ∙ link_unlinked once x d

    -- "joins on the left of the next one's"
    pub ended-next : m ≢ p → (frame_at es m).view ≡ join_view (frame_at fs p).view (frame_at fs m).view
    ended-next d =
        ap (λ (ks : List Frame). (frame_at ks m).view) ended_is ∙ ap (λ (f : Frame). f.view) (join_same hs m (frame_at fs p).view (omega (arith, long_hs, bm)))
        ∙ ap (join_view (frame_at fs p).view) (view_unlinked m d)

    pub ended_view : (x : ℕ) → x ≢ p → x ≢ m → (frame_at es x).view ≡ (frame_at fs x).view
    ended_view x d e = ap (λ (ks : List Frame). (frame_at ks x).view) ended_is ∙ ap (λ (f : Frame). f.view) (join_other hs m x (frame_at fs p).view e) ∙ view_unlinked x d
