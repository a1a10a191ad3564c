-- A record whose parts are words: in a table, with one part changed, a child's, a free place's.
use Rattle.std.specs.Prelude.{List, [], ◌∷◌, ℕ, zero, suc, ◌<◌, length, set}
use Rattle.std.proofs.Common.{arith}
use Rattle.std.proofs.Math.Decide.{ℕ_discrete, dec_lt}
use Rattle.std.proofs.lemmas.List.Edits.{sets}
use Rattle.words.specs.Basics.{plus}
use Rattle.words.specs.Below.{Words, words-set, plus_word}
use Rattle.reducers.specs.declared.View.{View}
use Rattle.reducers.specs.Reducers.{identity_view, view_words}
use Rattle.reducers.specs.Law.{ViewWord}
use Rattle.reducers.proofs.Theory.Laws.{view_law}
use Rattle.frames.specs.declared.Frame.{Frame}
use Rattle.frames.specs.Frames.{words_of, set_frame, with_outstanding, with_suspended, with_root, with_returning, with_view, with_younger, with_child, after_spawn, child_of, free_record, main_frame}
pub use Rattle.frames.specs.Frames.{FrameWords, RecordWords}
use Rattle.frames.proofs.Theory.Records.{frame-set-same, frame-set_other, set_past}

-- every element is a word
abbrev EachWord : List ℕ → Type 0
EachWord [] = Unit
EachWord (x ∷ xs) = (x < 4294967296) × EachWord xs

each_word : (xs : List ℕ) → EachWord xs → Words xs
each_word [] h i = omega arith
each_word (x ∷ xs) h zero = h.0
each_word (x ∷ xs) h (suc i) = each_word xs h.1 i

words_sets : (ws : List ℕ) (a : ℕ) (xs : List ℕ) → Words ws → Words xs → Words (sets ws a xs)
words_sets ws a [] h k = h
words_sets ws a (x ∷ xs) h k = words_sets (set ws a x) (suc a) xs (words-set ws a x h (k 0)) (λ i. k (suc i))

pub words_view : (w : View) → ViewWord w → Words (view_words w)
words_view w h = each_word (view_words w) (h.0, (h.1, (h.2.0, (h.2.1, tt))))

-- its parts, one by one, and its words
pub parts_of_lem : (f : Frame) → Words (words_of f) → FrameWords f
parts_of_lem f h = record { live = h 0; parent = h 1; depth = h 2; outstanding = h 3; suspended = h 4; root = h 5; returning = h 6; view = (h 7, h 8, (h 9, h 10)); younger = h 11 }

pub words_of_lem : (f : Frame) → FrameWords f → Words (words_of f)
words_of_lem f F =
    let v = F.view in
    each_word (words_of f)
    (F.live, (F.parent, (F.depth, (F.outstanding, (F.suspended, (F.root, (F.returning, (v.0, (v.1, (v.2.0, (v.2.1, (F.younger, tt))))))))))))

pub words-set_frame : (fs : List Frame) (p : ℕ) (f : Frame) → RecordWords fs → FrameWords f → RecordWords (set_frame fs p f)
words-set_frame fs p f h F q = elim (ℕ_discrete q p) [
  | yes e ↦ elim (dec_lt p (length fs)) [
    | yes b ↦ rw (e, frame-set-same fs p f b) F
    | no b ↦ rw (set_past fs p f (omega arith)) (h q)
  ]
  | no e ↦ rw (frame-set_other fs p q f e) (h q)
]

-- a record with one part changed
module _ (f : Frame) (F : FrameWords f) where
  pub words_outstanding : (n : ℕ) → n < 4294967296 → FrameWords (with_outstanding f n)
  words_outstanding n h = parts_of_lem (with_outstanding f n) (words-set (words_of f) 3 n (words_of_lem f F) h)

  pub words_suspended : (s : ℕ) → s < 4294967296 → FrameWords (with_suspended f s)
  words_suspended s h = parts_of_lem (with_suspended f s) (words-set (words_of f) 4 s (words_of_lem f F) h)

  pub words_root : (r : ℕ) → r < 4294967296 → FrameWords (with_root f r)
  words_root r h = parts_of_lem (with_root f r) (words-set (words_of f) 5 r (words_of_lem f F) h)

  pub words_returning : (b : ℕ) → b < 4294967296 → FrameWords (with_returning f b)
  words_returning b h = parts_of_lem (with_returning f b) (words-set (words_of f) 6 b (words_of_lem f F) h)

  pub words-with_view : (w : View) → ViewWord w → FrameWords (with_view f w)
  words-with_view w h = parts_of_lem (with_view f w) (words_sets (words_of f) 7 (view_words w) (words_of_lem f F) (words_view w h))

  pub words-younger : (y : ℕ) → y < 4294967296 → FrameWords (with_younger f y)
  words-younger y h = parts_of_lem (with_younger f y) (words-set (words_of f) 11 y (words_of_lem f F) h)

  pub words-child_of : (p : ℕ) → p < 4294967296 → FrameWords (child_of f p)
  words-child_of p h =
      record {
        live = omega arith;
        parent = h;
        depth = plus_word f.depth 1;
        outstanding = omega arith;
        suspended = omega arith;
        root = F.root;
        returning = omega arith;
        view = F.view;
        younger = omega arith;
      }

pub words-after_spawn : (f : Frame) → FrameWords f → FrameWords (after_spawn f)
words-after_spawn f F =
    words-with_view (with_child f) (words_outstanding f F (plus f.outstanding 1) (plus_word f.outstanding 1)) identity_view view_law.identity_word

pub words-free_place : (next : ℕ) → next < 4294967296 → FrameWords (free_record next)
words-free_place next h =
    record {
      live = omega arith;
      parent = h;
      depth = omega arith;
      outstanding = omega arith;
      suspended = omega arith;
      root = omega arith;
      returning = omega arith;
      view = (omega arith, omega arith, (omega arith, omega arith));
      younger = omega arith;
    }

pub words-main_frame : FrameWords (main_frame 0)
words-main_frame =
    record {
      live = omega arith;
      parent = omega arith;
      depth = omega arith;
      outstanding = omega arith;
      suspended = omega arith;
      root = omega arith;
      returning = omega arith;
      view = view_law.identity_word;
      younger = omega arith;
    }
