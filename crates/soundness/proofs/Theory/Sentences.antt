-- Document 01's "Soundness" with R-3's, R-5's and R-6's sentences: each test of Soundness on numbers, totals, frames and deques holds if and only if its fact does.
use Rattle.std.specs.Prelude.{◌≡◌, ◌≢◌, ◌⊎◌, Bool, true, ◌||◌, ◌&&◌, List, ◌++◌, ℕ, suc, ◌≤◌, ◌<◌, eqb, ltb, length, get_or}
use Rattle.std.proofs.Math.Path.{sym, ap}
use Rattle.std.proofs.Common.{◌∙◌, subst, inl, inr, arith}
use Rattle.words.specs.Basics.{none, all, how_many, implies, below, count}
use Rattle.words.specs.Tallies.{how_many_one}
use Rattle.frames.specs.declared.Frame.{Frame}
use Rattle.frames.specs.Widths.{max_workers, max_places, deque_places}
use Rattle.frames.specs.Frames.{frame_at, free_record}
use Rattle.frames.specs.Siblings.{younger}
use Rattle.frames.proofs.Theory.Siblings.{linked_is}
use Rattle.frames.specs.Deques.{size, place}
use Rattle.reducers.specs.declared.View.{View}
use Rattle.reducers.specs.Reducers.{zero_view}
use Rattle.soundness.specs.declared.Numbers.{Numbers}
use Rattle.soundness.specs.Numbers.{total_count}
use Rattle.soundness.specs.Soundness.{lives, children, in_deques, siblings_linked, free_places, view_zero, place_free, live_roots, number_sentences, total_sentences, frame_sentences, sentences, sound_parts}
use Rattle.soundness.specs.Sentence.{all_of}
use Rattle.soundness.specs.Soundness.{one_main, parents_live, counts_right, placed_once, returning_right, links_right, totals_right, hold_live, absent_empty, rest_zero, linked, only_below, places_free, frames_sound, numbers_sound, sound}
use Rattle.soundness.specs.Layout.{Layout, pool_sound}
use Rattle.soundness.proofs.Theory.Is.{Is, is_as, true_is, eq_is, lt_is, le_is, and_is, and3_is, or_is, not_is, implies_is, both_imply, from_is, all_is, all_but_last, some_is}
use Rattle.soundness.proofs.Theory.Each.{row_of, of_each, all_of-append}
use Rattle.soundness.proofs.Theory.FreeLists.{chain_below, follow-sound, sound-follow, the_one}
pub use Rattle.soundness.proofs.Theory.Facts.{Lives, stands, stands_is, child_is, child_at_lem, at_child, NoFrame, OnlyMain, HasParent, Placed, Returning, Siblings, TotalsZero, PlacesFree, FramesFacts, NumbersFacts, few_places, SoundFacts}

-- ---- frames and deques

module _ (ds : List ℕ) (fs : List Frame) where
  pub lives_is : (p : ℕ) → Is (lives fs p) (Lives fs p)
  lives_is p = eq_is (frame_at fs p).live 1

  -- "just one live frame has depth 0, with parent none"
  abbrev pub main_test : ℕ → Bool
  main_test p = lives fs p && eqb (frame_at fs p).depth 0

  pub main_is : (p : ℕ) → Is (main_test p) (Lives fs p × ((frame_at fs p).depth ≡ 0))
  main_is p = and_is (lives_is p) (eq_is (frame_at fs p).depth 0)

  orphan_is : (p : ℕ) → Is (implies (main_test p) (eqb (frame_at fs p).parent none)) (Lives fs p → (frame_at fs p).depth ≡ 0 → (frame_at fs p).parent ≡ none)
  orphan_is p = both_imply (lives_is p) (eq_is (frame_at fs p).depth 0) (eq_is (frame_at fs p).parent none)

  pub only_main : (how_many (length fs) main_test ≡ 1) × ((p : ℕ) → p < length fs → Lives fs p → (frame_at fs p).depth ≡ 0 → (frame_at fs p).parent ≡ none) → OnlyMain fs
  only_main h =
      let m = the_one (length fs) main_test h.0 in
      let f = (main_is m.0).fact m.2 in
      record {
        main = m.0;
        inside = m.1;
        alive = f.0;
        flat = f.1;
        orphan = h.1 m.0 m.1 f.0 f.1;
        only = λ p b l d. m.3 p b ((main_is p).test (l, d));
      }

  pub main_only : OnlyMain fs → (how_many (length fs) main_test ≡ 1) × ((p : ℕ) → p < length fs → Lives fs p → (frame_at fs p).depth ≡ 0 → (frame_at fs p).parent ≡ none)
  main_only m = (
    how_many_one (length fs) m.main main_test m.inside ((main_is m.main).test (m.alive, m.flat)) (λ p b t. (let r = (main_is p).fact t in m.only p b r.0 r.1)),
    λ p b l d. ap (λ q. (frame_at fs q).parent) (m.only p b l d) ∙ m.orphan,
  )

  one_main_is : Is (one_main ds fs) (NoFrame ds fs ⊎ OnlyMain fs)
  unfolding one_main
  one_main_is =
      or_is (and_is (all_is (length fs) (λ p. not_is (lives_is p))) (all_is max_workers (λ w. eq_is (size ds w) 0)))
      (is_as only_main main_only (and_is (eq_is (how_many (length fs) main_test) 1) (all_is (length fs) orphan_is)))

  -- the parent of the frame at p is live and one shallower
  pub parent_is : (p : ℕ) → Is (ltb (frame_at fs p).parent (length fs) && (lives fs (frame_at fs p).parent && eqb (frame_at fs p).depth (suc (frame_at fs (frame_at fs p).parent).depth))) (HasParent fs p)
  parent_is p = and3_is (lt_is (frame_at fs p).parent (length fs)) (lives_is (frame_at fs p).parent) (eq_is (frame_at fs p).depth (suc (frame_at fs (frame_at fs p).parent).depth))

  parents_is : Is (parents_live fs) ((p : ℕ) → p < length fs → Lives fs p → (frame_at fs p).depth ≢ 0 → HasParent fs p)
  unfolding parents_live
  parents_is = all_is (length fs) (λ p. both_imply (lives_is p) (not_is (eq_is (frame_at fs p).depth 0)) (parent_is p))

  counts_is : Is (counts_right fs) ((p : ℕ) → p < length fs → Lives fs p → (frame_at fs p).outstanding ≡ children fs p)
  unfolding counts_right
  counts_is = all_is (length fs) (λ p. implies_is (lives_is p) (eq_is (frame_at fs p).outstanding (children fs p)))

  in_is : (p n : ℕ) → Is (eqb (in_deques ds p) n) (stands ds p ≡ n)
  in_is p n = is_as (λ e. sym (stands_is ds p) ∙ e) (λ e. stands_is ds p ∙ e) (eq_is (in_deques ds p) n)

  -- where the frame at p stands
  pub placed_is : (p : ℕ) → Is ((eqb (in_deques ds p) 1 && eqb (frame_at fs p).suspended 0) || (eqb (in_deques ds p) 0 && (eqb (frame_at fs p).suspended 1 && ltb 0 (children fs p)))) (Placed ds fs p)
  placed_is p = or_is (and_is (in_is p 1) (eq_is (frame_at fs p).suspended 0)) (and3_is (in_is p 0) (eq_is (frame_at fs p).suspended 1) (lt_is 0 (children fs p)))

  placed_once_is : Is (placed_once ds fs) ((p : ℕ) → p < length fs → Lives fs p → Placed ds fs p)
  unfolding placed_once
  placed_once_is = all_is (length fs) (λ p. implies_is (lives_is p) (placed_is p))

  -- the frame at p waits in its return only if it is suspended
  pub returning_is : (p : ℕ) → Is (eqb (frame_at fs p).returning 0 || (eqb (frame_at fs p).returning 1 && eqb (frame_at fs p).suspended 1)) (Returning fs p)
  returning_is p = or_is (eq_is (frame_at fs p).returning 0) (and_is (eq_is (frame_at fs p).returning 1) (eq_is (frame_at fs p).suspended 1))

  returning_right_is : Is (returning_right fs) ((p : ℕ) → p < length fs → Lives fs p → Returning fs p)
  unfolding returning_right
  returning_right_is = all_is (length fs) (λ p. implies_is (lives_is p) (returning_is p))

  -- R-5: the links go through the live children of the frame at q, each once
  pub siblings_is : length fs ≤ max_places → (q : ℕ) → Is (siblings_linked fs q) (Siblings fs q)
  siblings_is few q = record { fact = (linked_is fs q few).0; test = (linked_is fs q few).1 }

  links_right_is : length fs ≤ max_places → Is (links_right fs) (((q : ℕ) → q < length fs → Lives fs q → Siblings fs q) × ((p : ℕ) → p < length fs → Lives fs p → (frame_at fs p).depth ≡ 0 → younger fs p ≡ none))
  unfolding links_right
  links_right_is few =
      and_is (all_is (length fs) (λ q. implies_is (lives_is q) (siblings_is few q))) (all_is (length fs) (λ p. both_imply (lives_is p) (eq_is (frame_at fs p).depth 0) (eq_is (younger fs p) none)))

  -- the frame at place k of worker w's deque lives
  pub hold_is : (w k : ℕ) → Is (ltb (place ds w k) (length fs) && lives fs (place ds w k)) ((place ds w k < length fs) × Lives fs (place ds w k))
  hold_is w k = and_is (lt_is (place ds w k) (length fs)) (lives_is (place ds w k))

  hold_live_is : Is (hold_live ds fs) ((w : ℕ) → w < max_workers → (k : ℕ) → k < size ds w → (place ds w k < length fs) × Lives fs (place ds w k))
  unfolding hold_live
  hold_live_is = all_is max_workers (λ w. all_is (size ds w) (hold_is w))

  pub absent_is : (workers w : ℕ) → Is (ltb w workers || eqb (size ds w) 0) (workers ≤ w → size ds w ≡ 0)
  absent_is workers w = from_is w workers (eq_is (size ds w) 0)

  absent_empty_is : (workers : ℕ) → Is (absent_empty workers ds) ((w : ℕ) → w < max_workers → workers ≤ w → size ds w ≡ 0)
  unfolding absent_empty
  absent_empty_is workers = all_is max_workers (absent_is workers)

  pub zeros_is : (w : ℕ) → Is (all deque_places (λ k. ltb k (size ds w) || eqb (place ds w k) 0)) ((k : ℕ) → k < deque_places → size ds w ≤ k → place ds w k ≡ 0)
  zeros_is w = all_is deque_places (λ k. from_is k (size ds w) (eq_is (place ds w k) 0))

  rest_zero_is : Is (rest_zero ds fs) ((w : ℕ) → w < max_workers → (size ds w ≤ length fs) × ((k : ℕ) → k < deque_places → size ds w ≤ k → place ds w k ≡ 0))
  unfolding rest_zero
  rest_zero_is = all_is max_workers (λ w. and_is (le_is (size ds w) (length fs)) (zeros_is w))

  above_is : Is (linked ds fs) ((w : ℕ) → w < max_workers → (k : ℕ) → suc k < size ds w → (frame_at fs (place ds w (suc k))).parent ≡ place ds w k)
  unfolding linked
  above_is = all_is max_workers (λ w. all_but_last (size ds w) (λ k. eq_is (frame_at fs (place ds w (suc k))).parent (place ds w k)))

  only_below_is : Is (only_below ds fs) ((w : ℕ) → w < max_workers → (k : ℕ) → suc k < size ds w → (c : ℕ) → c < length fs → Lives fs c → (frame_at fs c).parent ≡ place ds w (suc k)
      → (suc (suc k) < size ds w) × (c ≡ place ds w (suc (suc k))))
  unfolding only_below
  only_below_is =
      all_is max_workers (λ w. all_but_last (size ds w) (λ k. all_is (length fs) (λ c. both_imply (lives_is c) (eq_is (frame_at fs c).parent (place ds w (suc k)))
      (and_is (lt_is (suc (suc k)) (size ds w)) (eq_is c (place ds w (suc (suc k))))))))

-- ---- free places

made_view : ℕ → ℕ → ℕ → ℕ → View
made_view a b c d = record { sum = record { value = a }; min = record { value = b }; affine = record { multiplier = c; addend = d } }

made : ℕ → ℕ → ℕ → ℕ → ℕ → ℕ → ℕ → View → ℕ → Frame
made l p d o s r b v y = record { live = l; parent = p; depth = d; outstanding = o; suspended = s; root = r; returning = b; view = v; younger = y }

view_is : (v : View) → Is (view_zero v) (v ≡ zero_view)
unfolding made_view
view_is v =
    is_as (λ h. (let g : made_view v.sum.value v.min.value v.affine.multiplier v.affine.addend ≡ made_view 0 0 0 0 = rw (h.0, h.1.0, h.1.1.0, h.1.1.1) in g))
    (λ e. (ap (λ (w : View). w.sum.value) e, (ap (λ (w : View). w.min.value) e, (ap (λ (w : View). w.affine.multiplier) e, ap (λ (w : View). w.affine.addend) e))))
    (and_is (eq_is v.sum.value 0) (and_is (eq_is v.min.value 0) (and_is (eq_is v.affine.multiplier 0) (eq_is v.affine.addend 0))))

-- a record's words but the link, all zero
pub record Zero (f : Frame) : Type 0 where
  pub live : f.live ≡ 0
  pub depth : f.depth ≡ 0
  pub outstanding : f.outstanding ≡ 0
  pub suspended : f.suspended ≡ 0
  pub root : f.root ≡ 0
  pub returning : f.returning ≡ 0
  pub view : f.view ≡ zero_view
  pub younger : f.younger ≡ 0

free_frame : (f : Frame) → Zero f → f ≡ free_record f.parent
unfolding made
free_frame f h =
    let g : made f.live f.parent f.depth f.outstanding f.suspended f.root f.returning f.view f.younger ≡ made 0 f.parent 0 0 0 0 0 zero_view 0 =
    rw (h.live, h.depth, h.outstanding, h.suspended, h.root, h.returning, h.view, h.younger) in
    g

frame_free : (f : Frame) (q : ℕ) → f ≡ free_record q → Zero f
frame_free f q e = record {
  live = ap (λ (g : Frame). g.live) e;
  depth = ap (λ (g : Frame). g.depth) e;
  outstanding = ap (λ (g : Frame). g.outstanding) e;
  suspended = ap (λ (g : Frame). g.suspended) e;
  root = ap (λ (g : Frame). g.root) e;
  returning = ap (λ (g : Frame). g.returning) e;
  view = ap (λ (g : Frame). g.view) e;
  younger = ap (λ (g : Frame). g.younger) e;
}

abbrev pub FreeAt : List Frame → ℕ → Type 0
FreeAt fs p = (q : ℕ) × (frame_at fs p ≡ free_record q)

pub free_is : (fs : List Frame) (p : ℕ) → Is (place_free fs p) (FreeAt fs p)
free_is fs p =
    let f = frame_at fs p in
    is_as
    (λ h. (
      f.parent,
      free_frame f (record {
        live = h.0;
        depth = h.1.0;
        outstanding = h.1.1.0;
        suspended = h.1.1.1.0;
        root = h.1.1.1.1.0;
        returning = h.1.1.1.1.1.0;
        view = h.1.1.1.1.1.1.0;
        younger = h.1.1.1.1.1.1.1;
      }),
    ))
    (λ h. (let z = frame_free f h.0 h.1 in (z.live, (z.depth, (z.outstanding, (z.suspended, (z.root, (z.returning, (z.view, z.younger)))))))))
    (and_is (eq_is f.live 0) (and_is (eq_is f.depth 0) (and_is (eq_is f.outstanding 0) (and_is (eq_is f.suspended 0)
    (and_is (eq_is f.root 0) (and_is (eq_is f.returning 0) (and_is (view_is f.view) (eq_is f.younger 0))))))))

module _ (fs : List Frame) (first : ℕ) where
  -- p lives and is not among gs, or it is free and there once
  abbrev each_test : List ℕ → ℕ → Bool
  each_test gs p = (lives fs p && eqb (count p gs) 0) || (place_free fs p && eqb (count p gs) 1)

  abbrev pub EachPlace : List ℕ → ℕ → Type 0
  EachPlace gs p = (Lives fs p × (count p gs ≡ 0)) ⊎ (FreeAt fs p × (count p gs ≡ 1))

  each_is : (gs : List ℕ) (p : ℕ) → Is (each_test gs p) (EachPlace gs p)
  each_is gs p = or_is (and_is (eq_is (frame_at fs p).live 1) (eq_is (count p gs) 0)) (and_is (free_is fs p) (eq_is (count p gs) 1))

  each_once : (gs : List ℕ) (p : ℕ) → EachPlace gs p → count p gs ≤ 1
  each_once gs p (inl h) = omega (arith, h.1)
  each_once gs p (inr h) = omega (arith, h.1)

  -- the chain that the check follows is the list
  pub places_are : length fs ≤ max_places → (F : PlacesFree fs first) → free_places fs first ≡ F.gs
  places_are few F = sound-follow (λ p. (frame_at fs p).parent) (length fs) (omega (arith, few)) first F.gs F.chain (λ p b. each_once F.gs p (F.each p b))

  abbrev Chained : Type 0
  Chained = (below (length fs) (free_places fs first) ≡ true) × ((p : ℕ) → p < length fs → EachPlace (free_places fs first) p)

  pub places_of : Chained → PlacesFree fs first
  places_of h =
      record { gs = free_places fs first; chain = follow-sound (λ p. (frame_at fs p).parent) (length fs) first h.0 (λ p c. each_once (free_places fs first) p (h.1 p c)); each = h.1 }

  pub of_places : length fs ≤ max_places → PlacesFree fs first → Chained
  of_places few F =
      subst (λ xs. (below (length fs) xs ≡ true) × ((p : ℕ) → p < length fs → EachPlace xs p)) (sym (places_are few F))
      (chain_below (λ p. (frame_at fs p).parent) (length fs) first F.gs F.chain, F.each)

  places_is : length fs ≤ max_places → Is (places_free fs first) (PlacesFree fs first)
  unfolding places_free
  places_is few = is_as places_of (of_places few) (and_is (true_is (below (length fs) (free_places fs first))) (all_is (length fs) (each_is (free_places fs first))))

-- ---- all of it

module _ (workers first : ℕ) (ds : List ℕ) (fs : List Frame) (few : length fs ≤ max_places) where
  pub frames_facts : frames_sound workers first ds fs ≡ true → FramesFacts workers first ds fs
  unfolding frames_sound
  frames_facts e =
      let r = row_of (frame_sentences workers first ds fs) e in
      record {
        one_main_lem = (one_main_is ds fs).fact (r 0);
        parents = (parents_is ds fs).fact (r 1);
        outstanding = (counts_is ds fs).fact (r 2);
        placed = (placed_once_is ds fs).fact (r 3);
        returning = (returning_right_is ds fs).fact (r 4);
        siblings = ((links_right_is ds fs few).fact (r 5)).0;
        main-link = ((links_right_is ds fs few).fact (r 5)).1;
        hold_live_lem = (hold_live_is ds fs).fact (r 6);
        absent = (absent_empty_is ds fs workers).fact (r 7);
        within = λ w b. ((rest_zero_is ds fs).fact (r 8) w b).0;
        zeros = λ w b k l c. ((rest_zero_is ds fs).fact (r 8) w b).1 k c l;
        child_of_above = (above_is ds fs).fact (r 9);
        only_below = (only_below_is ds fs).fact (r 10);
        places = (places_is fs first few).fact (r 11);
      }

  pub facts_frames : FramesFacts workers first ds fs → frames_sound workers first ds fs ≡ true
  unfolding frames_sound
  facts_frames F = of_each (frame_sentences workers first ds fs) (
    (one_main_is ds fs).test F.one_main_lem,
    (
      (parents_is ds fs).test F.parents,
      (
        (counts_is ds fs).test F.outstanding,
        (
          (placed_once_is ds fs).test F.placed,
          (
            (returning_right_is ds fs).test F.returning,
            (
              (links_right_is ds fs few).test (F.siblings, F.main-link),
              (
                (hold_live_is ds fs).test F.hold_live_lem,
                (
                  (absent_empty_is ds fs workers).test F.absent,
                  (
                    (rest_zero_is ds fs).test (λ w b. (F.within w b, λ k c l. F.zeros w b k l c)),
                    (
                      (above_is ds fs).test F.child_of_above,
                      (
                        (only_below_is ds fs).test F.only_below,
                        (
                          (places_is fs first few).test F.places,
                          tt,
                        ),
                      ),
                    ),
                  ),
                ),
              ),
            ),
          ),
        ),
      ),
    ),
  )

-- ---- numbers, and the whole

module _ (L : Layout) (s : Numbers) (fs : List Frame) (ws : List ℕ) where
  pub numbers_facts : numbers_sound L s fs ws ≡ true → NumbersFacts L s fs ws
  unfolding numbers_sound
  numbers_facts e =
      let r = row_of (number_sentences L s fs ws) e in
      record {
        workers_positive = (le_is _ _).fact (r 0);
        workers_le = (le_is _ _).fact (r 1);
        splitters_positive = (le_is _ _).fact (r 2);
        splitters_le = (le_is _ _).fact (r 3);
        enough = (le_is _ _).fact (r 4);
        nodes_le = (le_is _ _).fact (r 5);
        room = (le_is _ _).fact (r 6);
        places_positive = (le_is _ _).fact (r 7);
        places_le = (le_is _ _).fact (r 8);
        table = (eq_is _ _).fact (r 9);
      }

  pub facts_numbers : NumbersFacts L s fs ws → numbers_sound L s fs ws ≡ true
  unfolding numbers_sound
  facts_numbers F = of_each (number_sentences L s fs ws) (
    (le_is _ _).test F.workers_positive,
    (
      (le_is _ _).test F.workers_le,
      (
        (le_is _ _).test F.splitters_positive,
        (
          (le_is _ _).test F.splitters_le,
          (
            (le_is _ _).test F.enough,
            (
              (le_is _ _).test F.nodes_le,
              (
                (le_is _ _).test F.room,
                (
                  (le_is _ _).test F.places_positive,
                  (
                    (le_is _ _).test F.places_le,
                    (
                      (eq_is _ _).test F.table,
                      tt,
                    ),
                  ),
                ),
              ),
            ),
          ),
        ),
      ),
    ),
  )

-- R-5: the totals
totals_is : (ts : List ℕ) (fs : List Frame) → Is (totals_right ts fs) (TotalsZero ts fs)
unfolding totals_right
totals_is ts fs =
    is_as (λ h p b l. h (p, b, l)) (λ h e. h e.0 e.1 e.2)
    (implies_is (some_is (length fs) (λ p. eq_is (frame_at fs p).live 1)) (all_is total_count (λ i. eq_is (get_or ts i 0) 0)))

module _ (L : Layout) (s : Numbers) (ts ds : List ℕ) (fs : List Frame) (ws : List ℕ) where
  pub sound_facts : sound L s ts ds fs ws ≡ true → SoundFacts L s ts ds fs ws
  unfolding sound
  sound_facts e =
      let r = row_of (sound_parts L s ts ds fs ws) e in
      let N = numbers_facts L s fs ws (r 0) in
      record { numbers = N; totals = (totals_is ts fs).fact (r 1); frames = frames_facts s.workers s.free_place ds fs (few_places N) (r 2); pool = r 3 }

  pub facts_sound : SoundFacts L s ts ds fs ws → sound L s ts ds fs ws ≡ true
  unfolding sound
  facts_sound F =
      of_each (sound_parts L s ts ds fs ws) (
        facts_numbers L s fs ws F.numbers,
        ((totals_is ts fs).test F.totals, (facts_frames s.workers s.free_place ds fs (few_places F.numbers) F.frames, (F.pool, tt))),
      )

  -- the four parts are all the sentences
  pub sound_is_all : sound L s ts ds fs ws ≡ all_of (sentences L s ts ds fs ws)
  unfolding sound numbers_sound frames_sound pool_sound
  sound_is_all =
      let nu = number_sentences L s fs ws in
      let to = total_sentences ts fs in
      let fr = frame_sentences s.workers s.free_place ds fs in
      let po = L.sentences s.splitters s.nodes ws s.free_node (live_roots fs) in
      sym (all_of-append nu (to ++ (fr ++ po)) ∙ ap (λ b. all_of nu && b) (all_of-append to (fr ++ po) ∙ ap (λ b. totals_right ts fs && b) (all_of-append fr po)))
