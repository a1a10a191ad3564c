-- A table of the right form, and what a store to a record, a deque or the free places does to it.
use Rattle.std.specs.Prelude.{◌≡◌, refl, ◌≢◌, ℕ, ◌≤◌, ◌<◌, length}
use Rattle.std.proofs.Common.{sym, ap, ◌∙◌, arith}
use mathlib.Core.List.{List, [], ◌∷◌, tail}
use Rattle.words.specs.Counting.{count}
use Rattle.frames.specs.declared.Frame.{Frame}
use Rattle.frames.specs.Widths.{max_workers, max_places, deque_places}
use Rattle.frames.specs.Frames.{frame_at, set_frame, free_record}
use Rattle.frames.specs.Deques.{size, deque_list, push, pop}
use Rattle.frames.specs.Steps.{Table}
use Rattle.frames.specs.Promises.{table}
use Rattle.frames.proofs.Theory.Records.{length-set_frame, frame-set_other}
use Rattle.frames.proofs.Theory.Cells.{Shaped}
use Rattle.frames.proofs.Theory.Lists.{list_length, list_elsewhere, push_elsewhere, push-shaped, push_list, pop_elsewhere, pop-shaped, pop_list}
use Rattle.frames.proofs.Theory.Places.{next_free, FreePlaces, free_elsewhere, free_put}

-- gs are the free places
pub record Formed (t : Table) (gs : List ℕ) : Type 0 where
  pub shaped : Shaped t.deques
  pub few : length t.frames ≤ max_places
  pub places : FreePlaces t.frames t.free_place gs

-- q is none of them
abbrev pub Apart : ℕ → List ℕ → Type 0
Apart q [] = Unit
Apart q (p ∷ ps) = (q ≢ p) × Apart q ps

-- from t to t' worker w's deque became d, the free places gs, and only the records at the places ps were stored
pub record After (t t' : Table) (w : ℕ) (d gs ps : List ℕ) : Type 0 where
  pub formed : Formed t' gs
  pub same_length : length t'.frames ≡ length t.frames
  pub deque : deque_list t'.deques w ≡ d
  pub deques : (v : ℕ) → v < max_workers → v ≢ w → deque_list t'.deques v ≡ deque_list t.deques v
  pub records : (q : ℕ) → Apart q ps → frame_at t'.frames q ≡ frame_at t.frames q

pub unchanged : (t : Table) (w : ℕ) (d gs : List ℕ) → Formed t gs → deque_list t.deques w ≡ d → After t t w d gs []
unchanged t w d gs f e = record { formed = f; same_length = refl; deque = e; deques = λ v h a. refl; records = λ q a. refl }

module _ {t t' : Table} {w : ℕ} {d gs ps : List ℕ} (a : After t t' w d gs ps) where
  after-size : size t'.deques w ≡ length d
  after-size = sym (list_length t'.deques w) ∙ ap length a.deque

  pub after_store : (p : ℕ) (f : Frame) → count p gs ≡ 0 → After t (table t'.deques (set_frame t'.frames p f) t'.free_place) w d gs (p ∷ ps)
  after_store p f out =
      record {
        formed =
            record {
              shaped = a.formed.shaped;
              few = omega (arith, length-set_frame t'.frames p f, a.formed.few);
              places = free_elsewhere t'.frames t'.free_place p gs out a.formed.places f;
            };
        same_length = length-set_frame t'.frames p f ∙ a.same_length;
        deque = a.deque;
        deques = a.deques;
        records = λ q r. frame-set_other t'.frames p q f r.0 ∙ a.records q r.1;
      }

  -- the place p is free, and the first
  pub after_free : (p : ℕ) → count p gs ≡ 0 → p < length t.frames → After t (table t'.deques (set_frame t'.frames p (free_record t'.free_place)) p) w d (p ∷ gs) (p ∷ ps)
  after_free p out h =
      record {
        formed =
            record {
              shaped = a.formed.shaped;
              few = omega (arith, length-set_frame t'.frames p (free_record t'.free_place), a.formed.few);
              places = free_put t'.frames t'.free_place p gs out a.formed.places (omega (arith, a.same_length));
            };
        same_length = length-set_frame t'.frames p (free_record t'.free_place) ∙ a.same_length;
        deque = a.deque;
        deques = a.deques;
        records = λ q r. frame-set_other t'.frames p q (free_record t'.free_place) r.0 ∙ a.records q r.1;
      }

  pub after_push : (p : ℕ) → w < max_workers → length d < deque_places → After t (table (push t'.deques w p) t'.frames t'.free_place) w (p ∷ d) gs ps
  after_push p h b =
      let r : size t'.deques w < deque_places = omega (arith, after-size) in
      let s = a.formed.shaped in
      record {
        formed = record { shaped = push-shaped t'.deques w p s h r; few = a.formed.few; places = a.formed.places };
        same_length = a.same_length;
        deque = push_list t'.deques w p s h r ∙ ap (λ (l : List ℕ). p ∷ l) a.deque;
        deques = λ v c n. list_elsewhere s (push_elsewhere t'.deques w p s h r) v c n ∙ a.deques v c n;
        records = a.records;
      }

  pub after-pop : w < max_workers → After t (table (pop t'.deques w) t'.frames t'.free_place) w (tail d) gs ps
  after-pop h =
      let s = a.formed.shaped in
      record {
        formed = record { shaped = pop-shaped t'.deques w s h; few = a.formed.few; places = a.formed.places };
        same_length = a.same_length;
        deque = pop_list t'.deques w s h ∙ ap tail a.deque;
        deques = λ v c n. list_elsewhere s (pop_elsewhere t'.deques w s h) v c n ∙ a.deques v c n;
        records = a.records;
      }

-- the first free place is taken
pub after-take : {t t' : Table} {w : ℕ} {d ps : List ℕ} (g : ℕ) (gs : List ℕ) → After t t' w d (g ∷ gs) ps → After t (table t'.deques t'.frames (next_free t'.frames g)) w d gs ps
after-take g gs a =
    record {
      formed = record { shaped = a.formed.shaped; few = a.formed.few; places = a.formed.places.2 };
      same_length = a.same_length;
      deque = a.deque;
      deques = a.deques;
      records = a.records;
    }
