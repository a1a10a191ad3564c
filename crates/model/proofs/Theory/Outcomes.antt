-- R-3: "the answer shows where that stopped: 1, 2 or 3". The outcome, read off the machine after the ends, is also what the ends give
-- one after the other.
use Rattle.std.specs.Prelude.{◌≡◌, refl, true, false, cond, ℕ, ◌<◌, length}
use Rattle.std.proofs.Common.{sym, ap, ◌∙◌, subst, inl, inr, arith, get_or-set_same}
use mathlib.Core.List.Memᴰ.{append_cases as In-cases}
use mathlib.Core.List.Memᴰ.{append_right as In-right}
use mathlib.Core.List.Memᴰ.{head as here}
use mathlib.Core.List.{Memᴰ as In}
use mathlib.Core.List.Permᴰ
use mathlib.Core.List.{List, [], ◌∷◌, ◌++◌, Permᴰ}
use Rattle.words.specs.Basics.{joined}
use Rattle.words.specs.Tests.{true≢false, decided}
use Rattle.words.specs.Lists.{In-perm}
use Rattle.model.specs.Machine.{Name, Frame, Machine, live, deque, is_empty, has_child, has_frame, those}
use Rattle.model.specs.Steps.{waits_in_return, waits_at_sync, leave, resume, upward, end_outcome}
use Rattle.model.proofs.Theory.LiveRun.{Disjoint, disjoint_perm}
use Rattle.model.proofs.Theory.Children.{In-hasChild}
use Rattle.model.proofs.Theory.Effects.{perm_those, returned, resume-live}
use Rattle.model.proofs.Theory.FrameTree.{Rooted, rooted_perm, main-lives}
use Rattle.model.proofs.Theory.DequeShape.{disjoint_right, disjoint_apart}
use Rattle.model.proofs.Theory.MainEnds.{In-hasFrame, has_frame_In}

-- a frame of that name has ended, and its worker's deque is empty
abbrev pub outcome_upward : Machine → Name → ℕ
outcome_upward M [] = 3
outcome_upward M (k ∷ p) =
    let ends = outcome_upward (leave M p) p in
    cond (has_child p (live M)) 1 (cond (is_empty (those (waits_in_return p) M.suspended)) (cond (is_empty (those (waits_at_sync p) M.suspended)) 1 2) ends)

-- the parent of r lives, and if r is Main it does not
abbrev pub Above : List Frame → Name → Type 0
Above L [] = has_frame [] L ≡ false
Above L (k ∷ p) = has_frame p L ≡ true

pub main_there : (L : List Frame) → Rooted L → (p : Name) → has_frame p L ≡ true → has_frame [] L ≡ true
main_there L r p h = let f = has_frame_In p L h in let m = main-lives L r p f.0 f.1 f.2 in In-hasFrame [] L m.0 m.1 m.2

outcome_there : (N : Machine) (w : ℕ) → has_frame [] (live N) ≡ true → end_outcome N w [] ≡ cond (is_empty (deque N w)) 1 2
outcome_there N w h = rw h

module _ (M : Machine) (p : Name) (rooted : Rooted (live M)) (c : Disjoint (live M)) (none : has_child p (live M) ≡ false) where
  -- a frame that stays when p ends
  pub rooted_leave : Rooted (live (leave M p))
  rooted_leave f m k r e =
      let π = perm_those (waits_in_return p) M.suspended (joined M.deques) in
      let mf = In-perm (Permᴰ.symm π) (In-right (those (waits_in_return p) M.suspended) m) in
      let g = rooted f mf k r e in
      elim (In-cases (those (waits_in_return p) M.suspended) (In-perm π g.1)) [
        | inl i ↦ absurd (true≢false (sym (In-hasChild k p mf (e ∙ ap (λ z. k ∷ z) (sym g.2 ∙ (returned p M.suspended g.0 i).0))) ∙ none))
        | inr i ↦ (g.0, i, g.2)
      ]

  pub above-leave : is_empty (those (waits_in_return p) M.suspended) ≡ false → has_frame p (live M) ≡ true → Above (live (leave M p)) p
  above-leave some lives = by_name p refl
    where
      π : Permᴰ (live M) (those (waits_in_return p) M.suspended ++ live (leave M p))
      π = perm_those (waits_in_return p) M.suspended (joined M.deques)

      first : (l : List Frame) → those (waits_in_return p) M.suspended ≡ l → is_empty l ≡ false → (f : Frame) × In f (those (waits_in_return p) M.suspended)
      first [] z s = absurd (true≢false s)
      first (f ∷ l) z s = (f, subst (λ y. In f y) (sym z) (here refl))

      by_name : (r : Name) → r ≡ p → Above (live (leave M p)) r
      by_name [] e = elim (decided (has_frame [] (live (leave M p)))) [
        | inl t ↦ (let g = has_frame_In [] (live (leave M p)) t in let f = first (those (waits_in_return p) M.suspended) refl some in
            absurd (disjoint_apart (those (waits_in_return p) M.suspended) (live (leave M p)) (disjoint_perm π c) f.0 g.0 f.1 g.1 ((returned p M.suspended f.0 f.1).0 ∙ sym e ∙ sym g.2)))
        | inr t ↦ t
      ]
      by_name (k ∷ r) e =
          let f = has_frame_In p (live M) lives in
          let g = rooted f.0 f.1 k r (f.2 ∙ sym e) in
          elim (In-cases (those (waits_in_return p) M.suspended) (In-perm π g.1)) [
            | inl i ↦ absurd (omega (arith, ap length e, ap length (sym g.2 ∙ (returned p M.suspended g.0 i).0)))
            | inr i ↦ In-hasFrame r (live (leave M p)) g.0 i g.2
          ]

pub outcome-upward : (M : Machine) (w : ℕ) (r : Name) → w < length M.deques → deque M w ≡ [] → Rooted (live M) → Disjoint (live M) → Above (live M) r → end_outcome (upward M w r) w [] ≡ outcome_upward M r
outcome-upward M w [] lt e rooted c a = rw a
outcome-upward M w (k ∷ p) lt e rooted c a =
    elim (decided (has_child p (live M))) [
      | inl t ↦ rw t (outcome_there M w (main_there (live M) rooted p a) ∙ idle)
      | inr t ↦ rw t (elim (decided (is_empty (those (waits_in_return p) M.suspended))) [
        | inl s ↦ rw s (outcome_there (resume M w p) w (main_there (live (resume M w p)) (rooted_perm (resume-live M w p lt e) rooted) p resumed_there) ∙ ap (λ z. cond (is_empty z) 1 2) (get_or-set_same M.deques w (those (waits_at_sync p) M.suspended) [] lt))
        | inr s ↦ rw s (outcome-upward (leave M p) w p lt e (rooted_leave M p rooted c t) (disjoint_right (those (waits_in_return p) M.suspended) (live (leave M p)) (disjoint_perm (perm_those (waits_in_return p) M.suspended (joined M.deques)) c)) (above-leave M p rooted c t s a))
      ])
    ]
  where
    idle : ◌≡◌ {A = ℕ} (cond (is_empty (deque M w)) 1 2) 1
    idle = ap (λ z. cond (is_empty z) 1 2) e

    resumed_there : has_frame p (live (resume M w p)) ≡ true
    resumed_there = let f = has_frame_In p (live M) a in In-hasFrame p (live (resume M w p)) f.0 (In-perm (resume-live M w p lt e) f.1) f.2
