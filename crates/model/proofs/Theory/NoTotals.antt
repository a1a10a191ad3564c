-- "the four totals .. zero while Main lives": nothing is in the totals before Main ends.
use Rattle.std.specs.Prelude.{◌≡◌, refl, Bool, true, ℕ}
use Rattle.std.proofs.Common.{sym, ap, ap₂, ◌∙◌, subst, inl, inr}
use mathlib.Core.List.Memᴰ.{cases_cons as In-cons}
use mathlib.Core.List.Memᴰ.{head as here}
use mathlib.Core.List.Memᴰ.{not-nil as not-in-nil}
use mathlib.Core.List.{Memᴰ as In}
use mathlib.Core.List.{List, [], ◌∷◌, ◌++◌, nil≢cons}
use Rattle.words.specs.Tests.{true≢false, decided}
use Rattle.model.specs.declared.Step.{Step}
use Rattle.model.specs.Machine.{Name, Frame, Machine, live, deque, has_frame, start}
use Rattle.model.specs.Steps.{Turn, acting, stealing, turn_of, after_turn, step}
use Rattle.model.specs.Run.{run}
use Rattle.model.specs.Views.{Folded, View, Views, views_at_start, turn_views, join_by, join_ended, views_after, run_views}
use Rattle.model.proofs.Theory.Under.{Under, under_main}
use Rattle.model.proofs.Theory.Effects.{Passes}
use Rattle.model.proofs.Theory.RunSteps.{accepted_or_refused}
use Rattle.model.proofs.Theory.FrameTree.{FrameTree, tree-step, tree-start}
use Rattle.model.proofs.Theory.MainEnds.{In-hasFrame, has_frame_In}
use Rattle.model.proofs.Theory.ViewNames.{view_names, bottom_names, turn_names, in_acted, views_accepted, views_refused, view_names_turn, turn_all}
use Rattle.model.proofs.Theory.PostOrder.{PostOrder, InPostOrder, post_moved, post_start, views_step}

-- Main stays: its view is the last, so none joins the totals
pub main_stays : (s : Name → Bool) (ended : List Folded) (vs : List View) (totals : List Folded) → PostOrder (view_names vs) → In [] (view_names vs) → s [] ≡ true → (join_by s ended vs totals).totals ≡ totals
main_stays s ended [] totals o m h = absurd (not-in-nil m)
main_stays s ended (v ∷ vs) totals o m h =
    elim (decided (s v.name)) [
      | inl t ↦ rw t (elim (In-cons m) [ inl e ↦ last vs (λ n i. o.0.after-below n i (subst (Under n) e (under_main n))) | inr i ↦ main_stays s [] vs totals o.1 i h ])
      | inr t ↦ rw t (elim (In-cons m) [ inl e ↦ absurd (true≢false (sym h ∙ ap s e ∙ t)) | inr i ↦ main_stays s (ended ++ v.folds) vs totals o.1 i h ])
    ]
  where
    last : (us : List View) → ((n : Name) → In n (view_names us) → ⊥) → (join_by s [] us totals).totals ≡ totals
    last [] z = refl
    last (u ∷ us) z = absurd (z u.name (here refl))

-- Main is no frame's child
pub main_before : (M : Machine) (t : Turn) (ns : List Name) → In [] (turn_names M t ns) → In [] ns
main_before M (acting w a) ns m = at (deque M w) m
  where
    at : (d : List Frame) → In [] (bottom_names d a ns) → In [] ns
    at [] i = i
    at (q ∷ d) i = elim (in_acted q a ns [] i) [ inl j ↦ j | inr r ↦ absurd (nil≢cons r.1) ]
main_before M (stealing w v) ns m = m

-- ---- a run

abbrev pub NoTotals : Machine → Views → Type 0
NoTotals M W = has_frame [] (live M) ≡ true → W.totals ≡ []

pub no_totals_turn : (M : Machine) (t : Turn) (W : Views) → Passes M t → FrameTree M → InPostOrder (live M) (view_names W.views) → NoTotals M W
    → NoTotals (after_turn M t) (join_ended (live (after_turn M t)) [] (turn_views M t W.views) W.totals)
no_totals_turn M t W h tree o z lives =
    main_stays (λ n. has_frame n (live (after_turn M t))) [] (turn_views M t W.views) W.totals (subst PostOrder (sym names) (post_moved M t ns h tree o)) (subst (λ l. In [] l) (sym names) main_in_lem) lives
    ∙ z (let y = o.names.alive [] (main_before M t ns main_in_lem) in In-hasFrame [] (live M) y.0 y.1 y.2)
  where
    ns : List Name
    ns = view_names W.views

    names : view_names (turn_views M t W.views) ≡ turn_names M t ns
    names = view_names_turn M t W.views

    main_in_lem : In [] (turn_names M t ns)
    main_in_lem = let f = has_frame_In [] (live (after_turn M t)) lives in subst (λ n. In n (turn_names M t ns)) f.2 (turn_all M t ns h o.names f.0 f.1)

pub no_totals_step : (M : Machine) (s : Step) (W : Views) → FrameTree M → InPostOrder (live M) (view_names W.views) → NoTotals M W → NoTotals (step M s) (views_after M W s)
no_totals_step M s W tree o z =
    elim (accepted_or_refused M s) [
      | inl a ↦ subst After (sym (ap₂ (λ x y. (x, y)) a.after (views_accepted M W s a))) (no_totals_turn M (turn_of s) W a.passes tree o z)
      | inr r ↦ subst After (sym (ap₂ (λ x y. (x, y)) r.after (views_refused M W s r))) z
    ]
  where
    After : Machine × Views → Type 0
    After Z = NoTotals Z.0 Z.1

no_totals_run : (M : Machine) (W : Views) (ss : List Step) → FrameTree M → InPostOrder (live M) (view_names W.views) → NoTotals M W → NoTotals (run M ss) (run_views M W ss)
no_totals_run M W [] tree o z = z
no_totals_run M W (s ∷ ss) tree o z = no_totals_run (step M s) (views_after M W s) ss (tree-step M s tree) (views_step M s W tree o) (no_totals_step M s W tree o z)

pub no_totals_yet : (w : ℕ) (vs : List ℕ) (nodes places : ℕ) (ss : List Step) → has_frame [] (live (run (start w vs nodes places) ss)) ≡ true → (run_views (start w vs nodes places) views_at_start ss).totals ≡ []
no_totals_yet w vs nodes places ss = no_totals_run (start w vs nodes places) views_at_start ss (tree-start w vs nodes places) (post_start w vs nodes places) (λ h. refl)
