-- The check answers true where its facts hold, and only there: with the tallies as the numbers that they count, each of its tests is
-- its fact. A place's word of the tallies is its two counts, the children below 1,024 and the places in deques below 4,096, and the sum of its links in one.
use Rattle.std.specs.Prelude.{◌≡◌, ◌⊎◌, Bool, true, cond, List, ℕ, suc, ◌+◌, ◌*◌, ◌-◌, ◌%◌, ◌^◌, ◌≤◌, ◌<◌, length, get_or, eqb, ltb}
use Rattle.std.proofs.Common.{sym, ap, ◌∙◌, le_trans, arith}
use Rattle.words.specs.Basics.{none, how_many}
use Rattle.words.specs.Tests.{both}
use Rattle.words.specs.Counting.{all_at, all_of}
use Rattle.words.specs.Tallies.{and_of, how_many_le, sum_upto}
use Rattle.frames.specs.declared.Frame.{Frame}
use Rattle.frames.specs.Frames.{frame_at}
use Rattle.frames.specs.Siblings.{younger, chained, eldest}
use Rattle.frames.specs.Widths.{max_workers, max_places, deque_places}
use Rattle.frames.specs.Deques.{size, place}
use Rattle.soundness.specs.Soundness.{is_child, children, in_deques, free_places}
use Rattle.soundness.proofs.Theory.Is.{Is, true_is, eq_is, lt_is, le_is, and_is, or_is, not_is, implies_is, cond_is, all_is}
use Rattle.soundness.proofs.Theory.Sentences.{Lives, HasParent, Placed, Returning, lives_is, parent_is, placed_is, returning_is, hold_is, absent_is, zeros_is}
use Rattle.frame_check.specs.Algorithm.{deque_step, deque_span, link_step, link_span, child_count, deque_count, link_sum, child_in, step_in, tally_children}
use Rattle.frame_check.specs.Algorithm.{deque_fits, on_deque, mains, younger_sound, siblings_sound, place_sound, word_sound, place_checked, zeros, tallies, check_frames}
use Rattle.frame_check.specs.Theory.Tallied.{in_word, length-tally, tally_deques_at, children_at}
use Rattle.frame_check.specs.Theory.FreeChain.{FreeChain, chain_is}

-- ---- the tallies

-- at most 256 children, and at most 8 times 256 places in deques
children_le : (fs : List Frame) (p : ℕ) → length fs ≤ max_places → children fs p ≤ max_places
children_le fs p few = le_trans (how_many_le (length fs) (is_child fs p)) few

deques_le : (ds : List ℕ) (p : ℕ) → ((w : ℕ) → w < max_workers → size ds w ≤ deque_places) → in_deques ds p ≤ deque_places * max_workers
deques_le ds p h =
    sum_upto max_workers deque_places (λ w. how_many (size ds w) (λ k. eqb (place ds w k) p))
    (λ w c. le_trans (how_many_le (size ds w) (λ k. eqb (place ds w k) p)) (h w c))

-- the counts c and n and the sum s of links in one word
abbrev packed : ℕ → ℕ → ℕ → ℕ
packed c n s = (c + link_step * s + deque_step * n) % 2 ^ 32

together : {a t : ℕ} (c s n : ℕ) → a ≡ (c + link_step * s) % 2 ^ 32 → t ≡ (a + deque_step * n) % 2 ^ 32 → t ≡ packed c n s
together c s n u v = omega arith

in_range : {p : ℕ} (ts : List ℕ) → p < max_places → length ts ≡ max_places → p < length ts
in_range ts b e = omega arith

-- a place's word is its counts and its sum in one
tallies_at : (ds : List ℕ) (fs : List Frame) (p : ℕ) → p < max_places → get_or (tallies ds fs) p 0 ≡ packed (children fs p) (in_deques ds p) (suc (eldest fs p))
tallies_at ds fs p b =
    let us = tally_children fs zeros in
    let u = children_at (length fs) fs p b in
    together (children fs p) (suc (eldest fs p)) (in_deques ds p) u
    (tally_deques_at max_workers ds us p (in_range us b (length-tally (step_in fs) (length fs) (child_in fs) zeros)) (in_word (children fs p + link_step * suc (eldest fs p)) u))

-- the word taken apart gives them back, the sum modulo 1,024
child_back : (c n s : ℕ) → c < deque_step → child_count (packed c n s) ≡ c
child_back c n s a = omega arith

deque_back : (c n s : ℕ) → c < deque_step → n < deque_span → deque_count (packed c n s) ≡ n
deque_back c n s a b = omega arith

sum_back : (c n s : ℕ) → c < deque_step → n < deque_span → link_sum (packed c n s) ≡ s % link_span
sum_back c n s a b = omega arith

-- the eldest as the check finds it
abbrev pub eldest_found : List Frame → ℕ → ℕ
eldest_found fs q = suc (eldest fs q) % link_span - 1

-- a place with what its word counts
abbrev place_counted : List ℕ → List Frame → ℕ → Bool
place_counted ds fs p = place_sound fs p (children fs p) (in_deques ds p) (suc (eldest fs p) % link_span)

place-counted : (ds : List ℕ) (fs : List Frame) → length fs ≤ max_places → ((w : ℕ) → w < max_workers → size ds w ≤ length fs) → (p : ℕ) → p < length fs
    → place_checked ds fs p ≡ place_counted ds fs p
place-counted ds fs few h p b =
    let c = children fs p in
    let n = in_deques ds p in
    let s = suc (eldest fs p) in
    let u : c < deque_step = omega (arith, children_le fs p few) in
    let v : n < deque_span = omega (arith, deques_le ds p (λ w c. le_trans (h w c) few)) in
    ap (word_sound fs p) (tallies_at ds fs p (omega arith)) ∙ rw (child_back c n s u, deque_back c n s u v, sum_back c n s u v)

-- ---- what the check finds

-- deque w has no more frames than the table has places, is empty if there is no worker w, and is zero past its frames
abbrev pub Fits : ℕ → ℕ → List ℕ → ℕ → Type 0
Fits workers places ds w = (size ds w ≤ places) × ((workers ≤ w → size ds w ≡ 0) × ((k : ℕ) → k < deque_places → size ds w ≤ k → place ds w k ≡ 0))

-- the frame at place k of deque w lives; if it is not the top, its parent is above it, and it has a child if there is one below it
abbrev pub OnDeque : List ℕ → List Frame → ℕ → ℕ → Type 0
OnDeque ds fs w k =
    ((place ds w k < length fs) × Lives fs (place ds w k)) ×
    ((k ≡ 0) ⊎ (((frame_at fs (place ds w k)).parent ≡ place ds w (k - 1)) × ((frame_at fs (place ds w k)).outstanding ≡ cond (ltb (suc k) (size ds w)) 1 0)))

-- Main has no parent, any other frame a live one, one shallower
abbrev pub Parented : List Frame → ℕ → Type 0
Parented fs p = ((frame_at fs p).depth ≡ 0 → (frame_at fs p).parent ≡ none) × (((frame_at fs p).depth ≡ 0 → ⊥) → HasParent fs p)

-- R-5: Main and an only child name no sibling
abbrev pub Younger : List Frame → ℕ → Type 0
Younger fs p = (younger fs p ≡ none) ⊎ (((frame_at fs p).depth ≡ 0 → ⊥) × (1 < (frame_at fs (frame_at fs p).parent).outstanding))

-- the links chain the live children of the frame at q, from the eldest on, if they are more than one
abbrev pub Chained : List Frame → ℕ → Type 0
Chained fs q = (children fs q ≤ 1) ⊎ (chained (children fs q) fs q (eldest_found fs q) ≡ true)

abbrev pub LiveAt : List ℕ → List Frame → ℕ → Type 0
LiveAt ds fs p = Chained fs p × (((frame_at fs p).outstanding ≡ children fs p) × (Parented fs p × (Placed ds fs p × (Returning fs p × Younger fs p))))

pub record Passes (workers first : ℕ) (ds : List ℕ) (fs : List Frame) : Type 0 where
  pub fits : (w : ℕ) → w < max_workers → Fits workers (length fs) ds w
  pub on : (w : ℕ) → w < max_workers → (k : ℕ) → k < size ds w → OnDeque ds fs w k
  pub chained : FreeChain fs (free_places fs first)
  pub one : mains fs ≤ 1
  pub live : (p : ℕ) → p < length fs → Lives fs p → LiveAt ds fs p

-- ---- each test is its fact

module _ (workers first : ℕ) (ds : List ℕ) (fs : List Frame) (few : length fs ≤ max_places) where
  fits_is : (w : ℕ) → Is (deque_fits workers (length fs) ds w) (Fits workers (length fs) ds w)
  fits_is w = and_is (le_is (size ds w) (length fs)) (and_is (absent_is ds fs workers w) (zeros_is ds fs w))

  on_is : (w k : ℕ) → Is (on_deque ds fs w k) (OnDeque ds fs w k)
  on_is w k =
      let f = frame_at fs (place ds w k) in
      and_is (hold_is ds fs w k) (or_is (eq_is k 0) (and_is (eq_is f.parent (place ds w (k - 1))) (eq_is f.outstanding (cond (ltb (suc k) (size ds w)) 1 0))))

  younger_is : (p : ℕ) → Is (younger_sound (frame_at fs p) (frame_at fs (frame_at fs p).parent)) (Younger fs p)
  younger_is p =
      or_is (eq_is (younger fs p) none) (and_is (not_is (eq_is (frame_at fs p).depth 0)) (lt_is 1 (frame_at fs (frame_at fs p).parent).outstanding))

  chained_is : (q : ℕ) → Is (siblings_sound fs q (children fs q) (suc (eldest fs q) % link_span)) (Chained fs q)
  chained_is q = or_is (le_is (children fs q) 1) (true_is (chained (children fs q) fs q (eldest_found fs q)))

  place_is : (p : ℕ) → Is (place_counted ds fs p) (Lives fs p → LiveAt ds fs p)
  place_is p =
      let f = frame_at fs p in
      implies_is (lives_is ds fs p)
      (and_is (chained_is p) (and_is (eq_is f.outstanding (children fs p))
      (and_is (cond_is (eq_is f.depth 0) (eq_is f.parent none) (parent_is ds fs p)) (and_is (placed_is ds fs p) (and_is (returning_is ds fs p) (younger_is p))))))

  -- ---- the whole

  pub passes_at : check_frames workers first ds fs ≡ true → Passes workers first ds fs
  unfolding check_frames
  passes_at h =
      let a = both _ _ h in
      let b = both _ _ a.1 in
      let c = both _ _ b.0 in
      let d = both _ _ b.1 in
      let fit = (all_is max_workers fits_is).fact a.0 in
      record {
        fits = fit;
        on = (all_is max_workers (λ w. all_is (size ds w) (on_is w))).fact c.0;
        chained = (chain_is fs first few).fact c.1;
        one = (le_is (mains fs) 1).fact d.0;
        live = λ p l. (place_is p).fact (sym (place-counted ds fs few (λ w k. (fit w k).0) p l) ∙ all_at (length fs) (place_checked ds fs) d.1 p l);
      }

  pub passes_of : Passes workers first ds fs → check_frames workers first ds fs ≡ true
  unfolding check_frames
  passes_of P =
      and_of ((all_is max_workers fits_is).test P.fits)
      (and_of (and_of ((all_is max_workers (λ w. all_is (size ds w) (on_is w))).test P.on) ((chain_is fs first few).test P.chained))
      (and_of ((le_is (mains fs) 1).test P.one)
      (all_of (length fs) (place_checked ds fs) (λ p b. place-counted ds fs few (λ w c. (P.fits w c).0) p b ∙ (place_is p).test (P.live p b)))))
