-- A record after a store: at its own place, elsewhere, stored again, two of them in either order; the record that a place has, stored; the places past the
-- table; a record and its words.
use Rattle.std.specs.Prelude.{◌≡◌, refl, ◌≢◌, List, [], ◌∷◌, ℕ, zero, suc, ◌+◌, ◌≤◌, ◌<◌, length, get_or, drop}
use Rattle.std.proofs.Common.{sym, ap, ◌∙◌, arith, drop_of_length-le, length-set, drop-cons, get_or-set_same, get_or-set_other, set-set}
use Rattle.std.proofs.Math.ListN.{get_or-eq_default}
use Rattle.std.proofs.Math.Seq.{set-get_or, set_out}
use Rattle.std.proofs.lemmas.List.{set_comm}
use Rattle.frames.specs.declared.Frame.{Frame}
use Rattle.frames.specs.Widths.{record_words}
use Rattle.frames.specs.Frames.{words_of, record_in, frame_at, set_frame, with_root, with_view, free_record}

pub length-set_frame : (fs : List Frame) (p : ℕ) (f : Frame) → length (set_frame fs p f) ≡ length fs
unfolding set_frame
length-set_frame fs p f = length-set fs p f

pub frame-set-same : (fs : List Frame) (p : ℕ) (f : Frame) → p < length fs → frame_at (set_frame fs p f) p ≡ f
unfolding frame_at set_frame
frame-set-same fs p f h = get_or-set_same fs p f (free_record 0) h

pub frame-set_other : (fs : List Frame) (p q : ℕ) (f : Frame) → q ≢ p → frame_at (set_frame fs p f) q ≡ frame_at fs q
unfolding frame_at set_frame
frame-set_other fs p q f h = get_or-set_other fs p q f (free_record 0) h

pub frame-set_again : (fs : List Frame) (p : ℕ) (f g : Frame) → set_frame (set_frame fs p f) p g ≡ set_frame fs p g
unfolding set_frame
frame-set_again fs p f g = set-set fs p f g

-- the records of two places, stored in either order
pub frame-set_swap : (fs : List Frame) (p q : ℕ) (f g : Frame) → p ≢ q → set_frame (set_frame fs p f) q g ≡ set_frame (set_frame fs q g) p f
unfolding set_frame
frame-set_swap fs p q f g d = set_comm fs p q f g d

-- past the table there are zeros
pub frame_past : (fs : List Frame) (p : ℕ) → length fs ≤ p → frame_at fs p ≡ free_record 0
unfolding frame_at
frame_past fs p h = get_or-eq_default fs (free_record 0) h

-- and nothing is stored
pub set_past : (fs : List Frame) (p : ℕ) (f : Frame) → length fs ≤ p → set_frame fs p f ≡ fs
unfolding set_frame
set_past fs p f h = set_out fs p f h

-- the record that it has, the root, and the view
module _ (fs : List Frame) (p : ℕ) where
  pub frame_kept : set_frame fs p (frame_at fs p) ≡ fs
  unfolding frame_at set_frame
  frame_kept = set-get_or fs p (free_record 0)

  pub root_kept : set_frame fs p (with_root (frame_at fs p) (frame_at fs p).root) ≡ fs
  root_kept = frame_kept

  pub view_kept : set_frame fs p (with_view (frame_at fs p) (frame_at fs p).view) ≡ fs
  view_kept = frame_kept

-- ---- a record and its words

pub record_in_lem : (f : Frame) → record_in (words_of f) ≡ f
record_in_lem f = refl

-- n words from a on
abbrev words_from : ℕ → List ℕ → ℕ → List ℕ
words_from zero ks a = []
words_from (suc n) ks a = get_or ks a 0 ∷ words_from n ks (suc a)

words_from_lem : (n : ℕ) (ks : List ℕ) (a : ℕ) → a + n ≡ length ks → words_from n ks a ≡ drop a ks
words_from_lem zero ks a e = sym (drop_of_length-le ks {i = a} (omega arith))
words_from_lem (suc n) ks a e = ap (λ (l : List ℕ). get_or ks a 0 ∷ l) (words_from_lem n ks (suc a) (omega arith)) ∙ sym (drop-cons ks a 0 (omega arith))

pub words_in_lem : (ks : List ℕ) → length ks ≡ record_words → words_of (record_in ks) ≡ ks
words_in_lem ks e = words_from_lem record_words ks 0 (sym e)
