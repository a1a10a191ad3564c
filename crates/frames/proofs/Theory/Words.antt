-- Every step keeps the words of the deques and of the frame records words: sums wrap, and all else that is stored is a copy of a word, a
-- constant or a smaller number.
use Rattle.std.specs.Prelude.{cond, List, length, replicate, eqb}
use Rattle.std.proofs.Math.Logic.{inl, inr}
use Prim.Native.Nat.{ℕ, zero, suc, ◌+◌, ◌-◌, ◌*◌, ◌<◌}
use Rattle.std.proofs.Common.{arith}
use Rattle.words.specs.Basics.{none, plus}
use Rattle.words.specs.Tests.{decided}
use Rattle.words.specs.Below.{Words, words-set, words-zeros, plus_word, minus_word, cond_word}
use Rattle.reducers.specs.declared.View.{View}
use Rattle.reducers.specs.Reducers.{join_view, fold_view}
use Rattle.reducers.specs.Law.{ViewWord}
use Rattle.reducers.proofs.Theory.Laws.{view_law}
use Rattle.reducers.proofs.Theory.Folds.{fold_word}
use Rattle.frames.specs.declared.Frame.{Frame}
use Rattle.frames.specs.Widths.{deque_stride}
use Rattle.frames.specs.Frames.{frame_at, set_frame, with_suspended, with_view, with_younger, without_child, as_returning, after_spawn, child_of, free_record, main_frame, init_places, init_frames}
use Rattle.frames.specs.Siblings.{names, relink_from, relink, only_child, next_after, join_at}
use Rattle.frames.specs.Deques.{size, set_size, place, set_place, bottom, top, push, pop, shift_up, drop_top, init_deques}
use Rattle.frames.specs.Steps.{Table, acting, link_child, add_child, with_frames, spawn, suspend, remove_frame, unlink, end_frame, resumes, go_on, steal, sync, fold}
use Rattle.frames.proofs.Theory.RecordWords.{words_outstanding, words_suspended, words_returning, words-with_view, words-younger, words-child_of, words-after_spawn, words-free_place, words-main_frame}
pub use Rattle.frames.proofs.Theory.RecordWords.{FrameWords, RecordWords, words_view, words-set_frame, words_root}

-- ---- siblings, and views joined

words-relink_from : (n : ℕ) (fs : List Frame) (q x y c : ℕ) → y < 4294967296 → RecordWords fs → RecordWords (relink_from n fs q x y c)
unfolding relink_from
words-relink_from zero fs q x y c h F = F
words-relink_from (suc n) fs q x y c h F = elim (decided (names fs q x c)) [
  | inl e ↦ rw e (words-set_frame fs c (with_younger (frame_at fs c) y) F (words-younger (frame_at fs c) (F c) y h))
  | inr e ↦ rw e (words-relink_from n fs q x y (suc c) h F)
]

pub words-relink : (fs : List Frame) (q x y : ℕ) → y < 4294967296 → RecordWords fs → RecordWords (relink fs q x y)
words-relink fs q x y h F = words-relink_from (length fs) fs q x y 0 h F

pub words-join_at : (fs : List Frame) (n : ℕ) (w : View) → ViewWord w → RecordWords fs → RecordWords (join_at fs n w)
words-join_at fs n w h F =
    let f : Frame = frame_at fs n in
    let G : FrameWords f = F n in
    words-set_frame fs n (with_view f (join_view w f.view)) F (words-with_view f G (join_view w f.view) (view_law.join_word w f.view h G.view))

-- ---- a deque

module _ (ds : List ℕ) (w : ℕ) (h : Words ds) where
  size_word : size ds w < 4294967296
  unfolding size
  size_word = h (deque_stride * w)

  place_word : (k : ℕ) → place ds w k < 4294967296
  unfolding place
  place_word k = h (deque_stride * w + (1 + k))

  pub bottom_word : bottom ds w < 4294967296
  unfolding bottom
  bottom_word = place_word (size ds w - 1)

  top_word : top ds w < 4294967296
  unfolding top
  top_word = place_word 0

  words-set_size : (c : ℕ) → c < 4294967296 → Words (set_size ds w c)
  unfolding set_size
  words-set_size c p = words-set ds (deque_stride * w) c h p

  words-set_place : (k p : ℕ) → p < 4294967296 → Words (set_place ds w k p)
  unfolding set_place
  words-set_place k p q = words-set ds (deque_stride * w + (1 + k)) p h q

module _ (ds : List ℕ) (w : ℕ) (h : Words ds) where
  words-push : (p : ℕ) → p < 4294967296 → Words (push ds w p)
  unfolding push
  words-push p q = words-set_size (set_place ds w (size ds w) p) w (words-set_place ds w h (size ds w) p q) (plus (size ds w) 1) (plus_word (size ds w) 1)

  -- a place emptied, and the length one less
  words_shorter : (es : List ℕ) → Words es → Words (set_size (set_place es w (size ds w - 1) 0) w (size ds w - 1))
  words_shorter es k = words-set_size (set_place es w (size ds w - 1) 0) w (words-set_place es w k (size ds w - 1) 0 (omega arith)) (size ds w - 1) (minus_word (size ds w) 1 (size_word ds w h))

  words-pop : Words (pop ds w)
  unfolding pop
  words-pop = words_shorter ds h

words-shift_up : (c : ℕ) (ds : List ℕ) (w k : ℕ) → Words ds → Words (shift_up c ds w k)
unfolding shift_up
words-shift_up zero ds w k h = h
words-shift_up (suc c) ds w k h = words-shift_up c (set_place ds w k (place ds w (plus k 1))) w (plus k 1) (words-set_place ds w h k (place ds w (plus k 1)) (place_word ds w h (plus k 1)))

words-drop_top : (ds : List ℕ) (w : ℕ) → Words ds → Words (drop_top ds w)
unfolding drop_top
words-drop_top ds w h = words_shorter ds w h (shift_up (size ds w - 1) ds w 0) (words-shift_up (size ds w - 1) ds w 0 h)

-- ---- the steps

pub record TableWords (t : Table) : Type 0 where
  pub deques : Words t.deques
  pub frames : RecordWords t.frames
  pub place : t.free_place < 4294967296

module _ (t : Table) (w : ℕ) (T : TableWords t) where
  pub words-acting : FrameWords (acting t w)
  words-acting = T.frames (bottom t.deques w)

  words-add_child : TableWords (add_child t w)
  unfolding add_child
  words-add_child =
      let p : ℕ = bottom t.deques w in
      let f : Frame = frame_at t.frames p in
      record {
        deques = words-push t.deques w T.deques t.free_place T.place;
        frames = words-set_frame (set_frame t.frames p (after_spawn f)) t.free_place (child_of f p) (words-set_frame t.frames p (after_spawn f) T.frames (words-after_spawn f words-acting)) (words-child_of f words-acting p (bottom_word t.deques w T.deques));
        place = (T.frames t.free_place).parent;
      }

  pub words-fold : (r v : ℕ) → TableWords (fold t w r v)
  unfolding fold
  words-fold r v =
      let f : Frame = acting t w in
      let u : View = fold_view f.view r v in
      record {
        deques = T.deques;
        frames = words-set_frame t.frames (bottom t.deques w) (with_view f u) T.frames (words-with_view f words-acting u (fold_word f.view r v words-acting.view));
        place = T.place;
      }

  -- the bottom frame leaves its deque
  words-suspend : (f : Frame) → FrameWords f → TableWords (suspend t w f)
  words-suspend f F = record { deques = words-pop t.deques w T.deques; frames = words-set_frame t.frames (bottom t.deques w) f T.frames F; place = T.place }

  pub words-waiting : TableWords (suspend t w (as_returning (acting t w)))
  words-waiting =
      let f = with_suspended (acting t w) 1 in
      words-suspend (as_returning (acting t w)) (words_returning f (words_suspended (acting t w) words-acting 1 (omega arith)) 1 (omega arith))

  pub words-go_on : (q : ℕ) → q < 4294967296 → TableWords (go_on t w q)
  unfolding go_on
  words-go_on q h =
      let f = frame_at t.frames q in
      elim (decided (resumes f)) [
        | inl e ↦ rw e (record {
          deques = words-push t.deques w T.deques q h;
          frames = words-set_frame t.frames q (with_suspended f 0) T.frames (words_suspended f (T.frames q) 0 (omega arith));
          place = T.place;
        })
        | inr e ↦ rw e T
      ]

  pub words-sync : TableWords (sync t w)
  unfolding sync
  words-sync =
      elim (decided (eqb (acting t w).outstanding 0)) [
        | inl e ↦ rw e T
        | inr e ↦ rw e (words-suspend (with_suspended (acting t w) 1) (words_suspended (acting t w) words-acting 1 (omega arith)))
      ]

-- the youngest child names the new one
words-link_child : (fs : List Frame) (p g : ℕ) → g < 4294967296 → RecordWords fs → RecordWords (link_child fs p g)
words-link_child fs p g h F = elim (decided (eqb (frame_at fs p).outstanding 0)) [
  | inl e ↦ rw e F
  | inr e ↦ rw e (words-relink fs p none g h F)
]

pub words-spawn : (t : Table) (w : ℕ) → TableWords t → TableWords (spawn t w)
unfolding spawn
words-spawn t w T =
    let fs : List Frame = link_child t.frames (bottom t.deques w) t.free_place in
    words-add_child (with_frames t fs) w (record {
      deques = T.deques;
      frames = words-link_child t.frames (bottom t.deques w) t.free_place T.place T.frames;
      place = T.place;
    })

words-remove_frame : (fs : List Frame) (free p : ℕ) → free < 4294967296 → RecordWords fs → RecordWords (remove_frame fs free p)
unfolding remove_frame
words-remove_frame fs free p h F =
    let q : ℕ = (frame_at fs p).parent in
    let g : Frame = frame_at fs q in
    let G : FrameWords g = F q in
    let freed : RecordWords (set_frame fs p (free_record free)) = words-set_frame fs p (free_record free) F (words-free_place free h) in
    elim (decided (eqb q none)) [
      | inl e ↦ rw e freed
      | inr e ↦ rw e (words-set_frame (set_frame fs p (free_record free)) q (without_child g) freed (words_outstanding g G (g.outstanding - 1) (minus_word g.outstanding 1 G.outstanding)))
    ]

words-unlink : (fs : List Frame) (p : ℕ) (gs : List Frame) → RecordWords fs → RecordWords gs → RecordWords (unlink fs p gs)
words-unlink fs p gs F G = elim (decided (only_child fs p)) [
  | inl e ↦ rw e G
  | inr e ↦ rw e (words-relink gs (frame_at fs p).parent p (frame_at fs p).younger (F p).younger G)
]

pub words-end_frame : (fs : List Frame) (free p : ℕ) → free < 4294967296 → RecordWords fs → RecordWords (end_frame fs free p)
unfolding end_frame
words-end_frame fs free p h F =
    let gs : List Frame = remove_frame fs free p in
    let G : RecordWords gs = words-remove_frame fs free p h F in
    elim (decided (eqb (frame_at fs p).parent none)) [
      | inl e ↦ rw e G
      | inr e ↦ rw e (words-join_at (unlink fs p gs) (next_after fs p) (frame_at fs p).view (F p).view (words-unlink fs p gs F G))
    ]

pub words-steal : (t : Table) (w v : ℕ) → TableWords t → TableWords (steal t w v)
unfolding steal
words-steal t w v T =
    record { deques = words-push (drop_top t.deques v) w (words-drop_top t.deques v T.deques) (top t.deques v) (top_word t.deques v T.deques); frames = T.frames; place = T.place }

-- ---- the start

words-init_places : (c : ℕ) (fs : List Frame) (p : ℕ) → RecordWords fs → RecordWords (init_places c fs p)
unfolding init_places
words-init_places zero fs p h = h
words-init_places (suc c) fs p h =
    let next : ℕ = cond (eqb c 0) none (plus p 1) in
    words-init_places c (set_frame fs p (free_record next)) (plus p 1) (words-set_frame fs p (free_record next) h (words-free_place next (cond_word (eqb c 0) none (plus p 1) (omega arith) (plus_word p 1))))

pub words-init_frames : (fs : List Frame) → RecordWords fs → RecordWords (init_frames fs)
unfolding init_frames
words-init_frames fs h = words-init_places (length fs - 1) (set_frame fs 0 (main_frame 0)) 1 (words-set_frame fs 0 (main_frame 0) h words-main_frame)

pub words-init_deques : (n : ℕ) → Words (init_deques (replicate n 0))
unfolding init_deques
words-init_deques n = words-push (replicate n 0) 0 (words-zeros n) 0 (omega arith)
