-- Tables that are alike but for the views and links of live frames; a view stored, joined, folded into.
use Rattle.std.specs.Prelude.{◌≡◌, refl, ◌≢◌, List, ℕ, ◌<◌, length}
use Rattle.std.proofs.Common.{sym, ap, ◌∙◌, subst, arith}
use Rattle.std.proofs.Math.Decide.{ℕ_discrete}
use Rattle.words.specs.Basics.{Chain}
use Rattle.words.specs.Chains.{chain_cong}
use Rattle.reducers.specs.declared.View.{View}
use Rattle.reducers.specs.Reducers.{join_view, fold_view}
use Rattle.frames.specs.declared.Frame.{Frame}
use Rattle.frames.specs.Frames.{frame_at, set_frame, with_view, with_younger}
use Rattle.frames.specs.Siblings.{join_at}
use Rattle.frames.specs.Deques.{bottom}
use Rattle.frames.specs.Steps.{Table, acting, with_frames, fold}
use Rattle.frames.proofs.Theory.Records.{length-set_frame, frame-set-same, frame-set_other}
use Rattle.frames.proofs.Theory.Places.{next_free}
use Rattle.frames.proofs.Theory.Tables.{Formed}

-- the records f and g differ in their views and links at most
pub record AlikeFrame (f g : Frame) : Type 0 where
  pub live : g.live ≡ f.live
  pub parent : g.parent ≡ f.parent
  pub depth : g.depth ≡ f.depth
  pub outstanding : g.outstanding ≡ f.outstanding
  pub suspended : g.suspended ≡ f.suspended
  pub root : g.root ≡ f.root
  pub returning : g.returning ≡ f.returning

-- the tables fs and gs differ in the views and links of live frames at most
pub record Alike (fs gs : List Frame) : Type 0 where
  pub same_length : length gs ≡ length fs
  pub same : (p : ℕ) → AlikeFrame (frame_at fs p) (frame_at gs p)
  pub rest : (p : ℕ) → (frame_at fs p).live ≢ 1 → frame_at gs p ≡ frame_at fs p

pub frame_but : (f : Frame) (w : View) (y : ℕ) → AlikeFrame f (with_younger (with_view f w) y)
frame_but f w y = record { live = refl; parent = refl; depth = refl; outstanding = refl; suspended = refl; root = refl; returning = refl }

pub frame_refl : (f : Frame) → AlikeFrame f f
frame_refl f = frame_but f f.view f.younger

frame_trans : {f g h : Frame} → AlikeFrame f g → AlikeFrame g h → AlikeFrame f h
frame_trans a b =
    record {
      live = b.live ∙ a.live;
      parent = b.parent ∙ a.parent;
      depth = b.depth ∙ a.depth;
      outstanding = b.outstanding ∙ a.outstanding;
      suspended = b.suspended ∙ a.suspended;
      root = b.root ∙ a.root;
      returning = b.returning ∙ a.returning;
    }

pub alike_refl : (fs : List Frame) → Alike fs fs
alike_refl fs = record { same_length = refl; same = λ p. frame_refl (frame_at fs p); rest = λ p n. refl }

pub alike_trans : {fs gs hs : List Frame} → Alike fs gs → Alike gs hs → Alike fs hs
alike_trans a b =
    record {
      same_length = b.same_length ∙ a.same_length;
      same = λ p. frame_trans (a.same p) (b.same p);
      rest = λ p n. b.rest p (λ e. n (sym (a.same p).live ∙ e)) ∙ a.rest p n;
    }

-- the record at n, of a live frame, is g
pub alike_set : (fs : List Frame) (n : ℕ) (g : Frame) → n < length fs → (frame_at fs n).live ≡ 1 → AlikeFrame (frame_at fs n) g → Alike fs (set_frame fs n g)
alike_set fs n g b v a =
    record {
      same_length = length-set_frame fs n g;
      same = λ p. elim (ℕ_discrete p n) [
        | yes e ↦ rw (e, frame-set-same fs n g b) a
        | no e ↦ rw (frame-set_other fs n p g e) (frame_refl (frame_at fs p))
      ];
      rest = λ p m. frame-set_other fs n p g (λ e. m (ap (λ (k : ℕ). (frame_at fs k).live) e ∙ v));
    }

-- ---- a view stored

module _ (fs : List Frame) (n : ℕ) (w : View) (b : n < length fs) where
  pub view_alike : (frame_at fs n).live ≡ 1 → Alike fs (set_frame fs n (with_view (frame_at fs n) w))
  view_alike v = alike_set fs n (with_view (frame_at fs n) w) b v (frame_but (frame_at fs n) w (frame_at fs n).younger)

  pub join_alike : (frame_at fs n).live ≡ 1 → Alike fs (join_at fs n w)
  join_alike v = alike_set fs n _ b v (frame_but (frame_at fs n) (join_view w (frame_at fs n).view) (frame_at fs n).younger)

  pub join_same : frame_at (join_at fs n w) n ≡ with_view (frame_at fs n) (join_view w (frame_at fs n).view)
  join_same = frame-set-same fs n _ b

pub join_other : (fs : List Frame) (n p : ℕ) (w : View) → p ≢ n → frame_at (join_at fs n w) p ≡ frame_at fs p
join_other fs n p w d = frame-set_other fs n p _ d

pub length_join : (fs : List Frame) (n : ℕ) (w : View) → length (join_at fs n w) ≡ length fs
length_join fs n w = length-set_frame fs n _

pub fold_alike : (t : Table) (w r v : ℕ) → bottom t.deques w < length t.frames → (acting t w).live ≡ 1 → Alike t.frames (fold t w r v).frames
unfolding fold
fold_alike t w r v b n = view_alike t.frames (bottom t.deques w) (fold_view (acting t w).view r v) b n

-- ---- the table's form

pub formed_alike : {t : Table} {gs : List ℕ} {fs : List Frame} → Formed t gs → Alike t.frames fs → Formed (with_frames t fs) gs
formed_alike {t} {gs} {fs} F a =
    record {
      shaped = F.shaped;
      few = omega (arith, a.same_length, F.few);
      places =
          subst (λ (n : ℕ). Chain (next_free fs) n t.free_place gs) (sym a.same_length)
          (chain_cong (length t.frames) (next_free t.frames) (next_free fs) gs t.free_place (λ p b o. (a.same p).parent) F.places);
    }
