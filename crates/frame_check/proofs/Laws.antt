-- The laws of the functions of src/, and of the loops over the deques and the table: how a loop begins, a turn of it, and its end.
use Rattle.std.specs.Prelude.{◌≡◌, ◌≢◌, Bool, true, false, cond, ◌&&◌, Some, None, List, ℕ, suc, ◌+◌, ◌-◌, ◌≤◌, ◌<◌, length, get_or, eqb, leb, ltb}
use Rattle.std.specs.Bool.{then_some}
use Rattle.std.proofs.Common.{refl, sym, ap, ◌∙◌, inl, inr, le_trans, add-one, arith}
use Rattle.std.proofs.Math.Bool.{or-false, and_assoc}
use Rattle.std.proofs.Math.Seq.{set_out}
use borrow.Author.Tests.{leb-true, le-leb, lt-leb, ltb-true, ltb-false, lt-ltb, le-ltb, ne_eqb}
use Rattle.words.specs.Basics.{none, plus, all, how_many, implies}
use Rattle.words.specs.Counting.{all_at, all_of, hit_le}
use Rattle.words.specs.Tallies.{how_many_le}
use Rattle.words.specs.Tests.{both, decided}
use Rattle.frames.specs.Widths.{max_workers, max_places, deque_places}
use Rattle.frames.specs.declared.Frame.{Frame}
use Rattle.frames.specs.Frames.{frame_at}
use Rattle.frames.specs.Siblings.{live_child, chained}
use Rattle.frames.specs.Deques.{size}
use Rattle.soundness.specs.Soundness.{frames_sound}
use Rattle.frame_check.specs.declared.tallies.Census.{Census}
use Rattle.frame_check.specs.Algorithm.{child_count, link_sum, bump, tally, child_in, step_in, tally_children, tally_deques, zero_past, deque_fits, deque_sound}
use Rattle.frame_check.specs.Algorithm.{is_flat, main_at, mains, live_at, lives, end_to, live_end, census_to, child_tallied, with_live, counted, free_sound, place_tallied, place_checked, chain_from, zeros, check_frames}
use Rattle.frame_check.specs.Algorithm.{many_children, links_sound}
use Rattle.frame_check.specs.Theory.Tallied.{length-tally}
use Rattle.frame_check.specs.Theory.Ends.{end_live, end_passed, end_le, all_to_end}
use Rattle.frame_check.specs.Theory.Theorem.{check-frames}

-- ---- loops that count up to n

-- such a loop ends at n
pub at_end : {A : Type 0} (F : ℕ → A) {n k : ℕ} {x : A} → k ≤ n → n ≤ k → x ≡ F k → x ≡ F n
at_end F {n} {k} a b e = let d : k ≡ n = omega arith in e ∙ ap F d

pub all_turn : (k : ℕ) (f : ℕ → Bool) {b t : Bool} → b ≡ all k f → t ≡ f k → b && t ≡ all (k + 1) f
all_turn k f e h = rw (add-one, e, h)

-- ---- the functions of src/

-- below place n nothing is asked
pub past_start : (ds : List ℕ) (w n : ℕ) → true ≡ all n (zero_past ds w n)
past_start ds w n = sym (all_of n (zero_past ds w n) (λ i b. rw (lt-ltb i n b)))

-- a deque that has frames, and no more than the table has places
pub fits_some : (workers places : ℕ) (ds : List ℕ) (w : ℕ) {n : ℕ} → n ≡ size ds w → n ≤ places → n ≢ 0 → {b : Bool} → b ≡ all deque_places (zero_past ds w n)
    → ltb w workers && b ≡ deque_fits workers places ds w
fits_some workers places ds w {n} e h o d = rw (← e, le-leb n places h, ne_eqb n 0 o, or-false (ltb w workers), d)

-- ---- tally_children: what is counted below place p

pub tally_turn : (s : ℕ → ℕ) (k : ℕ) (f : ℕ → ℕ) (ts : List ℕ) {us : List ℕ} {p step : ℕ} → us ≡ tally s k f ts → p ≡ f k → step ≡ s k → bump step us p ≡ tally s (k + 1) f ts
unfolding tally
tally_turn s k f ts e h d = rw (add-one, e, h, d)

how_many_turn : (k : ℕ) (f : ℕ → Bool) {n t : ℕ} → n ≡ how_many k f → t ≡ cond (f k) 1 0 → n + t ≡ how_many (k + 1) f
how_many_turn k f e h = rw (add-one, e, h)

-- one more in a word that has room
in_word : (p n t : ℕ) → p < max_places → n ≤ p → t ≤ 1 → plus n t ≡ n + t
in_word p n t a b c = omega arith

made : ℕ → ℕ → ℕ → Census
made m l e = record { mains = m; live = l; end = e }

module _ (fs : List Frame) (ts : List ℕ) (few : length fs ≤ max_places) (long : length ts ≡ max_places) (p : ℕ) (h : p < length fs) where
  census_dead : live_at fs p ≡ false → census_to fs p ≡ census_to fs (p + 1)
  unfolding made
  census_dead t =
      let a = how_many_turn p (main_at fs) {t = 0} refl (rw t) in
      let b = how_many_turn p (live_at fs) {t = 0} refl (rw t) in
      let x : how_many p (main_at fs) ≡ how_many (p + 1) (main_at fs) = omega (arith, a) in
      let y : how_many p (live_at fs) ≡ how_many (p + 1) (live_at fs) = omega (arith, b) in
      let z : end_to fs p ≡ end_to fs (p + 1) = rw add-one (sym (end_passed fs p t)) in
      let g : made (how_many p (main_at fs)) (how_many p (live_at fs)) (end_to fs p) ≡ made (how_many (p + 1) (main_at fs)) (how_many (p + 1) (live_at fs)) (end_to fs (p + 1)) = rw (x, y, z) in
      g

  census_live : live_at fs p ≡ true → with_live (census_to fs p) p (frame_at fs p) ≡ census_to fs (p + 1)
  unfolding made
  census_live t =
      let m : main_at fs p ≡ is_flat (frame_at fs p) = rw t in
      let flat : ℕ = cond (is_flat (frame_at fs p)) 1 0 in
      let x : plus (how_many p (main_at fs)) flat ≡ how_many (p + 1) (main_at fs) =
      in_word p (how_many p (main_at fs)) flat (omega arith) (how_many_le p (main_at fs)) (hit_le (is_flat (frame_at fs p))) ∙ how_many_turn p (main_at fs) refl (rw m) in
      let y : plus (how_many p (live_at fs)) 1 ≡ how_many (p + 1) (live_at fs) =
      in_word p (how_many p (live_at fs)) 1 (omega arith) (how_many_le p (live_at fs)) (omega arith) ∙ how_many_turn p (live_at fs) refl (rw t) in
      let z : plus p 1 ≡ end_to fs (p + 1) = in_word p p 1 (omega arith) (omega arith) (omega arith) ∙ rw add-one (sym (end_live fs p t)) in
      let g : made (plus (how_many p (main_at fs)) flat) (plus (how_many p (live_at fs)) 1) (plus p 1) ≡ made (how_many (p + 1) (main_at fs)) (how_many (p + 1) (live_at fs)) (end_to fs (p + 1)) = rw (x, y, z) in
      g

  pub passed_turn : {us us' : List ℕ} {c c' : Census} → (us ≡ tally (step_in fs) p (child_in fs) ts) × (c ≡ census_to fs p) → us' ≡ child_tallied us p (frame_at fs p) → c' ≡ counted c p (frame_at fs p)
      → (us' ≡ tally (step_in fs) (p + 1) (child_in fs) ts) × (c' ≡ census_to fs (p + 1))
  unfolding bump
  passed_turn {us} {us'} {c} {c'} P t e = elim (decided (live_at fs p)) [
    | inl l ↦ (t ∙ rw l (tally_turn (step_in fs) p (child_in fs) ts P.0 (rw l) refl), e ∙ rw (l, P.1) (census_live l))
    | inr l ↦ (
        let o : length us ≤ none = omega (arith, ap length P.0, length-tally (step_in fs) p (child_in fs) ts) in (
          t ∙ rw l (sym (set_out us none (plus (get_or us none 0) (step_in fs p)) o) ∙ tally_turn (step_in fs) p (child_in fs) ts P.0 (rw l) refl),
          e ∙ rw (l, P.1) (census_dead l),
        ))
  ]

-- ---- chains of places: what is left of a chain of n places after k of them

none_left : {n k : ℕ} → n ≤ k → n - k ≡ 0
none_left h = omega arith

-- the free chain, at place p
module _ (fs : List Frame) (count first k p : ℕ) (i : chain_from fs (count - k) p ≡ chain_from fs count first) where
  free_here : k < count → chain_from fs count first ≡ (ltb p (length fs) && (free_sound (frame_at fs p) && chain_from fs (count - (k + 1)) (frame_at fs p).parent))
  unfolding chain_from
  free_here h = let e : count - k ≡ suc (count - (k + 1)) = omega arith in sym i ∙ ap (λ c. chain_from fs c p) e

  pub free_turn : k < count → p < length fs → free_sound (frame_at fs p) ≡ true → chain_from fs (count - (k + 1)) (frame_at fs p).parent ≡ chain_from fs count first
  free_turn h b t = sym (free_here h ∙ rw (lt-ltb p (length fs) b, t))

  -- no place, and no free one
  pub free_past : k < count → length fs ≤ p → false ≡ chain_from fs count first
  free_past h b = sym (free_here h ∙ rw (le-ltb p (length fs) b))

  pub free_fails : k < count → p < length fs → free_sound (frame_at fs p) ≡ false → false ≡ chain_from fs count first
  free_fails h b t = sym (free_here h ∙ rw (lt-ltb p (length fs) b, t))

  pub free_ends : count ≤ k → eqb p none ≡ chain_from fs count first
  unfolding chain_from
  free_ends h = ap (λ c. chain_from fs c p) (sym (none_left h)) ∙ i

-- the links of q's children, at place c
module _ (fs : List Frame) (q count : ℕ) (whole : Bool) (k c : ℕ) (i : chained (count - k) fs q c ≡ whole) where
  links_here : k < count → whole ≡ (ltb c (length fs) && (live_child fs q c && chained (count - (k + 1)) fs q (frame_at fs c).younger))
  unfolding chained
  links_here h = let e : count - k ≡ suc (count - (k + 1)) = omega arith in sym i ∙ ap (λ n. chained n fs q c) e

  pub links_turn : k < count → c < length fs → live_child fs q c ≡ true → chained (count - (k + 1)) fs q (frame_at fs c).younger ≡ whole
  links_turn h b t = sym (links_here h ∙ rw (lt-ltb c (length fs) b, t))

  -- no place, and no child of q
  pub links_past : k < count → length fs ≤ c → false ≡ whole
  links_past h b = sym (links_here h ∙ rw (le-ltb c (length fs) b))

  pub links_fail : k < count → c < length fs → live_child fs q c ≡ false → false ≡ whole
  links_fail h b t = sym (links_here h ∙ rw (lt-ltb c (length fs) b, t))

  pub links_end : count ≤ k → eqb c none ≡ whole
  unfolding chained
  links_end h = ap (λ n. chained n fs q c) (sym (none_left h)) ∙ i

-- the frame f at q with the word t of the tallies: none of its links are followed, and they are followed from the eldest on
module _ (fs : List Frame) (q t : ℕ) {f : Frame} (d : f ≡ frame_at fs q) where
  pub few_children : many_children f t ≡ false → true ≡ links_sound fs q t
  few_children m = elim (decided (live_at fs q)) [
    | inl e ↦ rw (e, le-leb (child_count t) 1 (ltb-false 1 (child_count t) (sym (rw (d, e)) ∙ m)))
    | inr e ↦ rw e
  ]

  pub links_begin : many_children f t ≡ true → {sum c count : ℕ} → sum ≡ link_sum t → c ≡ sum - 1 → count ≡ child_count t → chained (count - 0) fs q c ≡ links_sound fs q t
  links_begin m u e n =
      let b = both (eqb f.live 1) (ltb 1 (child_count t)) m in
      let z : child_count t - 0 ≡ child_count t = omega arith in
      rw (e, u, n, z, ← d, b.0, lt-leb (child_count t) 1 (ltb-true 1 (child_count t) b.1))

-- ---- places_sound: the places below p, up to one more than the last where a frame lives

module _ (fs : List Frame) (ts : List ℕ) where
  implies-both : (l a b : Bool) → (implies l a && implies l b) ≡ implies l (a && b)
  implies-both true a b = refl
  implies-both false a b = refl

  pub place_inside : {p end : ℕ} → end ≡ live_end fs → p < end → p < length fs
  place_inside e h = omega (arith, end_le fs (length fs))

  pub places_end : {p end : ℕ} {sound : Bool} → end ≡ live_end fs → sound ≡ all p (place_tallied fs ts) → p ≤ end → end ≤ p → sound ≡ all (length fs) (place_tallied fs ts)
  places_end e i a b =
      at_end (λ k. all k (place_tallied fs ts)) a b i ∙ ap (λ k. all k (place_tallied fs ts)) e ∙ all_to_end fs (place_tallied fs ts) (λ p t. rw t) (length fs)

-- ---- check_frames

some_if : (b : Bool) (n : ℕ) → then_some b n ≡ cond b (Some n) None
some_if true n = refl
some_if false n = refl

module _ (workers first : ℕ) (ds : List ℕ) (fs : List Frame) (few : length fs ≤ max_places) where
  -- deques that do not fit; b is what deques_fit said
  pub unfit : {b : Bool} → b ≡ all max_workers (deque_fits workers (length fs) ds) → b ≡ false → None ≡ cond (frames_sound workers first ds fs) (Some (live_end fs)) None
  unfolding check_frames
  unfit e t = rw (← whole ∙ check-frames workers first ds fs few)
    where
      whole : false ≡ check_frames workers first ds fs
      whole = rw (← e, t)

  -- deques that fit are as long as they may be
  pub fit_sizes : {b : Bool} → b ≡ all max_workers (deque_fits workers (length fs) ds) → b ≡ true → (w : ℕ) → w < max_workers → size ds w ≤ deque_places
  fit_sizes e t w h =
      le_trans (leb-true (size ds w) (length fs) (both (leb (size ds w) (length fs)) _ (all_at max_workers (deque_fits workers (length fs) ds) (sym e ∙ t) w h)).0) few

  -- the passes, one after the other: us are the tallies of the children, vs those of the deques too
  pub fit : {b placed chain sound : Bool} {c : Census} {us vs : List ℕ} → b ≡ all max_workers (deque_fits workers (length fs) ds) → b ≡ true → us ≡ tally_children fs zeros → c ≡ census_to fs (length fs)
      → vs ≡ tally_deques max_workers ds us → placed ≡ all max_workers (deque_sound ds fs) → chain ≡ chain_from fs (length fs - c.live) first → sound ≡ all (length fs) (place_tallied fs vs)
      → then_some (((placed && chain) && leb c.mains 1) && sound) c.end ≡ cond (frames_sound workers first ds fs) (Some (live_end fs)) None
  unfolding check_frames
  fit {placed = placed} {chain = chain} {sound = sound} {c = c} e t u k v d n l =
      some_if _ _ ∙ rw (and_assoc (placed && chain) (leb c.mains 1) sound, l, v, u, d, n, k) (ap (λ (x : Bool). cond x (Some (live_end fs)) None) (whole ∙ check-frames workers first ds fs few))
    where
      rest : Bool
      rest = (all max_workers (deque_sound ds fs) && chain_from fs (length fs - lives fs) first) && (leb (mains fs) 1 && all (length fs) (place_checked ds fs))

      whole : rest ≡ check_frames workers first ds fs
      whole = rw (← e, t)
