-- What a new child, an end, a resumption, a wait, a sync, a write and a steal do, over the workers' lists and the single records. In each, p is worker w's
-- bottom frame, ps are the frames above it, gs the free places.
use Rattle.std.specs.Prelude.{◌≡◌, refl, ◌≢◌, ℕ, suc, ◌≤◌, ◌<◌, length}
use Rattle.std.proofs.Math.Path.{sym}
use Rattle.std.proofs.Common.{ap, ◌∙◌, arith}
use mathlib.Core.List.{List, [], ◌∷◌}
use borrow.Author.Tests.{eq-eqb, ne_eqb}
use Rattle.words.specs.Basics.{none}
use Rattle.words.specs.Counting.{δ, δ_same, count, count_cons}
use Rattle.frames.specs.declared.Frame.{Frame}
use Rattle.frames.specs.declared.Synced.TheVariants.{Passed, Suspended}
use Rattle.frames.specs.Widths.{max_workers, deque_places}
use Rattle.frames.specs.Frames.{frame_at, set_frame, child_of, after_spawn, without_child, with_suspended, with_root, free_record}
use Rattle.frames.specs.Deques.{top, deque_list, push, drop_top}
use Rattle.frames.specs.Steps.{Table, acting, suspend, remove_frame, resume, add_child, steal, sync, synced}
use Rattle.frames.specs.Promises.{table}
use Rattle.frames.proofs.Theory.Records.{length-set_frame, frame-set-same, frame-set_other}
use Rattle.frames.proofs.Theory.Lists.{front, last, list_length, list_head, list_top, list_elsewhere, drop_top_elsewhere, drop_top-shaped, drop_top_list}
use Rattle.frames.proofs.Theory.Places.{next_free}
use Rattle.frames.proofs.Theory.Tables.{Formed, After, unchanged, after_store, after_free, after_push, after-pop, after-take}

-- a place that does not stand in a list
out_head : (p g : ℕ) (gs : List ℕ) → count p (g ∷ gs) ≡ 0 → p ≢ g
out_head p g gs o e = omega (arith, count_cons p g gs, ap (δ p) e, δ_same p)

out_tail : (p g : ℕ) (gs : List ℕ) → count p (g ∷ gs) ≡ 0 → count p gs ≡ 0
out_tail p g gs o = omega (arith, count_cons p g gs)

-- the frame that worker w executes
pub acting_is : (t : Table) (w p : ℕ) (ps : List ℕ) → deque_list t.deques w ≡ p ∷ ps → acting t w ≡ frame_at t.frames p
acting_is t w p ps d = ap (frame_at t.frames) (list_head t.deques w p ps d)

-- ---- a child in the first free place

pub record Spawned (t t' : Table) (w p g : ℕ) (ps gs : List ℕ) : Type 0 where
  pub after : After t t' w (g ∷ p ∷ ps) gs (g ∷ p ∷ [])
  pub parent : frame_at t'.frames p ≡ after_spawn (frame_at t.frames p)
  pub child : frame_at t'.frames g ≡ child_of (frame_at t.frames p) p

module _ (t : Table) (w p g : ℕ) (ps gs : List ℕ) (F : Formed t (g ∷ gs)) (h : w < max_workers) (d : deque_list t.deques w ≡ p ∷ ps) where
  spawn_is : add_child t w ≡ table (push t.deques w g) (set_frame (set_frame t.frames p (after_spawn (frame_at t.frames p))) g (child_of (frame_at t.frames p) p)) (next_free t.frames g)
  unfolding add_child
  spawn_is = rw (list_head t.deques w p ps d, F.places.0)

  pub spawn_does : suc (length ps) < deque_places → p < length t.frames → count p (g ∷ gs) ≡ 0 → count g gs ≡ 0 → Spawned t (add_child t w) w p g ps gs
  spawn_does r b o og =
      let f = frame_at t.frames p in
      rw spawn_is
      (record {
        after =
            after_push
            (after_store (after_store (after-take g gs (unchanged t w (p ∷ ps) (g ∷ gs) F d)) p (after_spawn f) (out_tail p g gs o)) g (child_of f p) og)
            g h r;
        parent = frame-set_other _ g p _ (out_head p g gs o) ∙ frame-set-same t.frames p (after_spawn f) b;
        child = frame-set-same _ g (child_of f p) (omega (arith, length-set_frame t.frames p (after_spawn f), F.places.1));
      })

-- ---- the end of the frame at place p: its place is the first free one

-- the table afterwards, but for what becomes of its view and its siblings' links
abbrev pub end_table : Table → ℕ → Table
end_table t p = table t.deques (remove_frame t.frames t.free_place p) p

-- ps are the places of the records that are stored
pub record Ends (t : Table) (w p : ℕ) (d gs ps : List ℕ) : Type 0 where
  pub after : After t (end_table t p) w d (p ∷ gs) ps
  pub freed : frame_at (end_table t p).frames p ≡ free_record t.free_place

module _ (t : Table) (w p : ℕ) (d gs : List ℕ) (F : Formed t gs) (e : deque_list t.deques w ≡ d) (b : p < length t.frames) (o : count p gs ≡ 0) where
  abbrev freed : Table
  freed = table t.deques (set_frame t.frames p (free_record t.free_place)) p

  freed-after : After t freed w d (p ∷ gs) (p ∷ [])
  freed-after = after_free (unchanged t w d gs F e) p o b

  freed-place : frame_at freed.frames p ≡ free_record t.free_place
  freed-place = frame-set-same t.frames p (free_record t.free_place) b

  main_is : (frame_at t.frames p).parent ≡ none → remove_frame t.frames t.free_place p ≡ freed.frames
  unfolding remove_frame
  main_is n = rw (eq-eqb (frame_at t.frames p).parent none n)

  pub end_main : (frame_at t.frames p).parent ≡ none → Ends t w p d gs (p ∷ [])
  end_main n = let is = main_is n in record { after = rw is freed-after; freed = rw is freed-place }

  module _ (q : ℕ) (n : (frame_at t.frames p).parent ≡ q) (c : q < length t.frames) (oq : count q (p ∷ gs) ≡ 0) where
    -- the parent's record with a live child less
    abbrev g : Frame
    g = without_child (frame_at t.frames q)

    child_is : remove_frame t.frames t.free_place p ≡ set_frame freed.frames q g
    unfolding remove_frame
    child_is = rw (n, ne_eqb q none (λ m. omega (arith, c, m, F.few)))

    freed_still : frame_at (set_frame freed.frames q g) p ≡ free_record t.free_place
    freed_still = frame-set_other freed.frames q p g (λ m. out_head q p gs oq (sym m)) ∙ freed-place

    pub end_child : Ends t w p d gs (q ∷ p ∷ []) × (frame_at (end_table t p).frames q ≡ g)
    end_child = (
      record { after = rw child_is (after_store freed-after q g oq); freed = rw child_is freed_still },
      rw child_is (frame-set-same freed.frames q g (omega (arith, freed-after.same_length, c))),
    )

-- ---- "the parent resumes on this worker, past its sync": the frame at place q, on worker w's deque, which is empty

pub resume_does : (t : Table) (w q : ℕ) (gs : List ℕ) → Formed t gs → w < max_workers → deque_list t.deques w ≡ [] → q < length t.frames → count q gs ≡ 0
    → After t (resume t w q) w (q ∷ []) gs (q ∷ []) × (frame_at (resume t w q).frames q ≡ with_suspended (frame_at t.frames q) 0)
resume_does t w q gs F h e b o =
    let f = with_suspended (frame_at t.frames q) 0 in
    (after_push (after_store (unchanged t w [] gs F e) q f o) q h (omega arith), frame-set-same t.frames q f b)

-- ---- worker w's bottom frame leaves its deque, at a sync or as returning, with the record f

pub suspend_does : (t : Table) (w p : ℕ) (ps gs : List ℕ) (f : Frame) → Formed t gs → w < max_workers → deque_list t.deques w ≡ p ∷ ps → p < length t.frames → count p gs ≡ 0
    → After t (suspend t w f) w ps gs (p ∷ []) × (frame_at (suspend t w f).frames p ≡ f)
suspend_does t w p ps gs f F h d b o =
    rw (list_head t.deques w p ps d)
    (after_store (after-pop (unchanged t w (p ∷ ps) gs F d) h) p f o, frame-set-same t.frames p f b)

-- ---- sync

pub sync_passes : (t : Table) (w p : ℕ) (ps : List ℕ) → deque_list t.deques w ≡ p ∷ ps → (frame_at t.frames p).outstanding ≡ 0 → (sync t w ≡ t) × (synced t w ≡ Passed)
unfolding sync synced
sync_passes t w p ps d z =
    let e = eq-eqb (acting t w).outstanding 0 (ap (λ (f : Frame). f.outstanding) (acting_is t w p ps d) ∙ z) in
    (rw e, rw e)

pub sync_waits : (t : Table) (w p : ℕ) (ps : List ℕ) → deque_list t.deques w ≡ p ∷ ps → (frame_at t.frames p).outstanding ≢ 0
    → (sync t w ≡ suspend t w (with_suspended (frame_at t.frames p) 1)) × (synced t w ≡ Suspended)
unfolding sync synced
sync_waits t w p ps d z =
    let is = acting_is t w p ps d in
    let e = ne_eqb (acting t w).outstanding 0 (λ k. z (sym (ap (λ (f : Frame). f.outstanding) is) ∙ k)) in
    (rw (e, is), rw e)

-- ---- write: the frame gets another tree

pub write_does : (t : Table) (w p r : ℕ) (ps gs : List ℕ) → Formed t gs → deque_list t.deques w ≡ p ∷ ps → p < length t.frames → count p gs ≡ 0
    → After t (table t.deques (set_frame t.frames p (with_root (frame_at t.frames p) r)) t.free_place) w (p ∷ ps) gs (p ∷ [])
    × (frame_at (set_frame t.frames p (with_root (frame_at t.frames p) r)) p ≡ with_root (frame_at t.frames p) r)
write_does t w p r ps gs F d b o =
    let f = with_root (frame_at t.frames p) r in
    (after_store (unchanged t w (p ∷ ps) gs F d) p f o, frame-set-same t.frames p f b)

-- ---- steal: "an idle worker takes the top frame of a victim with at least two frames"

pub record Stolen (t t' : Table) (w v : ℕ) (gs : List ℕ) : Type 0 where
  pub formed : Formed t' gs
  pub thief : deque_list t'.deques w ≡ last (deque_list t.deques v)
  pub victim : deque_list t'.deques v ≡ front (deque_list t.deques v)
  pub deques : (u : ℕ) → u < max_workers → u ≢ w → u ≢ v → deque_list t'.deques u ≡ deque_list t.deques u
  pub frames : t'.frames ≡ t.frames
  pub free : t'.free_place ≡ t.free_place

module _ (t : Table) (w v : ℕ) (gs : List ℕ) (F : Formed t gs) (h : w < max_workers) (k : v < max_workers) (idle : deque_list t.deques w ≡ []) (two : 2 ≤ length (deque_list t.deques v)) where
  differ : v ≢ w
  differ e = omega (arith, ap (λ (u : ℕ). length (deque_list t.deques u)) e, ap length idle)

  dropped : After t (table (drop_top t.deques v) t.frames t.free_place) v (front (deque_list t.deques v)) gs []
  dropped =
      record {
        formed = record { shaped = drop_top-shaped t.deques v F.shaped k; few = F.few; places = F.places };
        same_length = refl;
        deque = drop_top_list t.deques v F.shaped k;
        deques = λ u b n. list_elsewhere F.shaped (drop_top_elsewhere t.deques v F.shaped k) u b n;
        records = λ q a. refl;
      }

  pub steal_does : Stolen t (steal t w v) w v gs
  unfolding steal
  steal_does =
      let idle' = dropped.deques w h (λ e. differ (sym e)) ∙ idle in
      let a = after_push (unchanged (table (drop_top t.deques v) t.frames t.free_place) w [] gs dropped.formed idle') (top t.deques v) h (omega arith) in
      record {
        formed = a.formed;
        thief = a.deque ∙ sym (list_top t.deques v (omega (arith, list_length t.deques v)));
        victim = a.deques v k differ ∙ dropped.deque;
        deques = λ u b n m. a.deques u b n ∙ dropped.deques u b m;
        frames = refl;
        free = refl;
      }
