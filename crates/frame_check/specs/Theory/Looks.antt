-- The facts of soundness are what the check looks for.
use Rattle.std.specs.Prelude.{◌≡◌, refl, cond, List, ℕ, zero, suc, ◌-◌, ◌≤◌, ◌<◌, ltb, length}
use Rattle.std.proofs.Common.{sym, ap, ◌∙◌, inl, inr, arith}
use Rattle.words.specs.Basics.{none}
use Rattle.words.specs.Tests.{decided, true≢false, lt_of, ltb_of}
use Rattle.words.specs.Counting.{how_many-none}
use Rattle.words.specs.Tallies.{how_many_one}
use Rattle.frames.specs.declared.Frame.{Frame}
use Rattle.frames.specs.Frames.{frame_at}
use Rattle.frames.specs.Widths.{max_workers, max_places}
use Rattle.frames.specs.Deques.{size, place}
use Rattle.soundness.specs.Soundness.{is_child, children, free_places}
use Rattle.soundness.proofs.Theory.Sentences.{Lives, FramesFacts, child_is, at_child, main_is, main_only, of_places}
use Rattle.frame_check.specs.Algorithm.{main_at, mains}
use Rattle.frame_check.specs.Theory.FreeChain.{FreeChain, free_dead}
use Rattle.frame_check.specs.Theory.Passes.{OnDeque, Passes}
use Rattle.frame_check.specs.Theory.Links.{to_chained, to_younger}

module _ (workers first : ℕ) (ds : List ℕ) (fs : List Frame) (few : length fs ≤ max_places) (F : FramesFacts workers first ds fs) where
  -- a frame below the top has a child if there is a frame below it, else none
  counted : (w : ℕ) → w < max_workers → (k : ℕ) → suc k < size ds w → children fs (place ds w (suc k)) ≡ cond (ltb (suc (suc k)) (size ds w)) 1 0
  counted w b k c =
      let q = place ds w (suc k) in
      let r = place ds w (suc (suc k)) in
      elim (decided (ltb (suc (suc k)) (size ds w))) [
        | inl m ↦
            (let h = F.hold_live_lem w b (suc (suc k)) (lt_of m) in
            rw m (how_many_one (length fs) r (is_child fs q) h.0 (at_child fs q r h.1 (F.child_of_above w b (suc k) (lt_of m)))
            (λ j d t. (let a = (child_is fs q j).fact t in (F.only_below w b k c j d a.0 a.1).1))))
        | inr m ↦ rw m (how_many-none (length fs) (is_child fs q) (λ j d. elim (decided (is_child fs q j)) [
          | inl t ↦ (let a = (child_is fs q j).fact t in absurd (true≢false (sym (ltb_of (F.only_below w b k c j d a.0 a.1).0) ∙ m)))
          | inr t ↦ t
        ]))
      ]

  on : (w : ℕ) → w < max_workers → (k : ℕ) → k < size ds w → OnDeque ds fs w k
  on w b zero c = (F.hold_live_lem w b zero c, inl refl)
  on w b (suc k) c =
      let h = F.hold_live_lem w b (suc k) c in
      (h, inr (F.child_of_above w b k c ∙ ap (place ds w) back, F.outstanding (place ds w (suc k)) h.0 h.1 ∙ counted w b k c))
    where
      back : k ≡ suc k - 1
      back = omega arith

  one : mains fs ≤ 1
  one = elim F.one_main_lem [
    | inl n ↦ (let z = how_many-none (length fs) (main_at fs) (λ p b. elim (decided (main_at fs p)) [ inl t ↦ absurd (n.0 p b ((main_is ds fs p).fact t).0) | inr t ↦ t ]) in omega (arith, z))
    | inr m ↦ omega (arith, (main_only ds fs m).0)
  ]

  orphan : (p : ℕ) → p < length fs → Lives fs p → (frame_at fs p).depth ≡ 0 → (frame_at fs p).parent ≡ none
  orphan p b l d = elim F.one_main_lem [ inl n ↦ absurd (n.0 p b l) | inr m ↦ (main_only ds fs m).1 p b l d ]

  chained : FreeChain fs (free_places fs first)
  chained =
      let P = of_places fs first few F.places in
      record {
        within = P.0;
        off = λ p b l. elim (P.1 p b) [ inl u ↦ u.1 | inr f ↦ absurd (free_dead fs p f.0 l) ];
        once = λ p b n. elim (P.1 p b) [ inl u ↦ absurd (n u.0) | inr f ↦ f.1 ];
        empty = λ p b n. elim (P.1 p b) [ inl u ↦ absurd (n u.0) | inr f ↦ f.0 ];
      }

  pub looks : Passes workers first ds fs
  looks =
      record {
        fits = λ w b. (F.within w b, (F.absent w b, λ k c l. F.zeros w b k l c));
        on = on;
        chained = chained;
        one = one;
        live = λ p b l. (
          to_chained fs few p (F.siblings p b l),
          (F.outstanding p b l, ((orphan p b l, F.parents p b l), (F.placed p b l, (F.returning p b l, to_younger fs few F.outstanding F.siblings p b l (F.main-link p b l) (F.parents p b l))))),
        );
      }
