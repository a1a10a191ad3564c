-- What the check finds are the facts of soundness.
use Rattle.std.specs.Prelude.{◌≡◌, refl, ◌≢◌, ◌⊎◌, cond, List, ℕ, zero, suc, ◌-◌, ◌≤◌, ◌<◌, ltb, length}
use Rattle.std.proofs.Common.{sym, ap, ◌∙◌, inl, inr, arith}
use Rattle.std.proofs.Math.Decide.{ℕ_discrete}
use Rattle.words.specs.Basics.{how_many}
use Rattle.words.specs.Tests.{decided, true≢false, lt_of}
use Rattle.words.specs.Counting.{how_many_zero}
use Rattle.words.specs.Tallies.{how_many_pos, how_many_unique}
use Rattle.frames.specs.declared.Frame.{Frame}
use Rattle.frames.specs.Frames.{frame_at}
use Rattle.frames.specs.Widths.{max_workers, max_places}
use Rattle.frames.specs.Deques.{size, place}
use Rattle.soundness.specs.Soundness.{is_child, children, free_places}
use Rattle.soundness.proofs.Theory.Sentences.{Lives, NoFrame, OnlyMain, FramesFacts, EachPlace, at_child, main_is, only_main, places_of}
use Rattle.frame_check.specs.Algorithm.{main_at, mains}
use Rattle.frame_check.specs.Theory.Passes.{Younger, LiveAt, Passes}
use Rattle.frame_check.specs.Theory.Links.{to_siblings, to_main-link}

none_of : (m : ℕ) → m ≤ 1 → m ≢ 1 → 0 < m → ⊥
none_of m a b c = omega arith

module _ (workers first : ℕ) (ds : List ℕ) (fs : List Frame) (few : length fs ≤ max_places) (s : Passes workers first ds fs) where
  live : (p : ℕ) → p < length fs → Lives fs p → LiveAt ds fs p
  live = s.live

  counts : (p : ℕ) → p < length fs → Lives fs p → (frame_at fs p).outstanding ≡ children fs p
  counts p b l = (live p b l).1.0

  named : (p : ℕ) → p < length fs → Lives fs p → Younger fs p
  named p b l = (live p b l).1.1.1.1.1

  held : (w : ℕ) → w < max_workers → (k : ℕ) → k < size ds w → (place ds w k < length fs) × Lives fs (place ds w k)
  held w b k c = (s.on w b k c).0

  -- below the top
  inner : (w : ℕ) → w < max_workers → (k : ℕ) → suc k < size ds w
      → ((frame_at fs (place ds w (suc k))).parent ≡ place ds w k) × ((frame_at fs (place ds w (suc k))).outstanding ≡ cond (ltb (suc (suc k)) (size ds w)) 1 0)
  inner w b k c = elim (s.on w b (suc k) c).1 [
    | inl e ↦ absurd (omega arith)
    | inr e ↦ (e.0 ∙ ap (place ds w) back, e.1)
  ]
    where
      back : suc k - 1 ≡ k
      back = omega arith

  -- a live frame's ancestors lead to a Main
  main-above : (d p : ℕ) → p < length fs → Lives fs p → (frame_at fs p).depth ≡ d → 0 < mains fs
  main-above zero p b l e = how_many_pos (length fs) p (main_at fs) b ((main_is ds fs p).test (l, e))
  main-above (suc d) p b l e =
      let h = (live p b l).1.1.0.1 (λ z. omega arith) in
      main-above d (frame_at fs p).parent h.0 h.1 (omega (arith, h.2))

  -- where there is not one Main, no frame lives and the deques are empty
  dead : mains fs ≢ 1 → (p : ℕ) → p < length fs → Lives fs p → ⊥
  dead e p b l = none_of (mains fs) s.one e (main-above (frame_at fs p).depth p b l refl)

  empty : mains fs ≢ 1 → (w : ℕ) → w < max_workers → size ds w ≡ 0
  empty e w b = elim (ℕ_discrete (size ds w) 0) [
    | yes z ↦ z
    | no z ↦ (let h = held w b 0 (omega arith) in absurd (dead e (place ds w 0) h.0 h.1))
  ]

  one_main_lem : NoFrame ds fs ⊎ OnlyMain fs
  one_main_lem = elim (ℕ_discrete (mains fs) 1) [
    | yes e ↦ inr (only_main ds fs (e, λ p b l d. (live p b l).1.1.0.0 d))
    | no e ↦ inl (dead e, empty e)
  ]

  -- the children of a frame below the top are counted: one if there is a frame below it, else none
  only_below_lem : (w : ℕ) → w < max_workers → (k : ℕ) → suc k < size ds w → (c : ℕ) → c < length fs → Lives fs c → (frame_at fs c).parent ≡ place ds w (suc k)
      → (suc (suc k) < size ds w) × (c ≡ place ds w (suc (suc k)))
  only_below_lem w b k l c d a e =
      let q = place ds w (suc k) in
      let h = held w b (suc k) l in
      let n : children fs q ≡ cond (ltb (suc (suc k)) (size ds w)) 1 0 = sym (counts q h.0 h.1) ∙ (inner w b k l).1 in
      let t = at_child fs q c a e in
      elim (decided (ltb (suc (suc k)) (size ds w))) [
        | inl m ↦
            (let r = held w b (suc (suc k)) (lt_of m) in
            let one : how_many (length fs) (is_child fs q) ≡ 1 = n ∙ ap (λ z. cond z 1 0) m in
            (lt_of m, how_many_unique (length fs) c (place ds w (suc (suc k))) (is_child fs q) (omega (arith, one)) d r.0 t (at_child fs q (place ds w (suc (suc k))) r.1 (inner w b (suc k) (lt_of m)).0)))
        | inr m ↦ absurd (true≢false (sym t ∙ how_many_zero (length fs) (is_child fs q) (n ∙ ap (λ z. cond z 1 0) m) c d))
      ]

  each_place : (p : ℕ) → p < length fs → EachPlace fs first (free_places fs first) p
  each_place p b = elim (ℕ_discrete (frame_at fs p).live 1) [
    | yes l ↦ inl (l, s.chained.off p b l)
    | no l ↦ inr (s.chained.empty p b l, s.chained.once p b l)
  ]

  pub finds : FramesFacts workers first ds fs
  finds =
      record {
        one_main_lem = one_main_lem;
        parents = λ p b l. (live p b l).1.1.0.1;
        outstanding = counts;
        placed = λ p b l. (live p b l).1.1.1.0;
        returning = λ p b l. (live p b l).1.1.1.1.0;
        siblings = λ q b l. to_siblings fs few counts named q b l (live q b l).0;
        main-link = λ p b l. to_main-link fs few p (named p b l);
        hold_live_lem = held;
        absent = λ w b. (s.fits w b).1.0;
        within = λ w b. (s.fits w b).0;
        zeros = λ w b k l c. (s.fits w b).1.1 k c l;
        child_of_above = λ w b k c. (inner w b k c).0;
        only_below = only_below_lem;
        places = places_of fs first (s.chained.within, each_place);
      }
