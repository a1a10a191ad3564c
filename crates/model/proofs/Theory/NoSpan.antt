-- While Main lives the span is 0.
use Rattle.std.specs.Prelude.{◌≡◌, refl, true, List, [], ◌∷◌, ℕ, max}
use Rattle.std.proofs.Common.{subst, arith}
use mathlib.Core.List.{Memᴰ as In}
use Rattle.model.specs.declared.Step.{Step}
use Rattle.model.specs.Machine.{Name, Machine, live, is_empty, has_frame, start}
use Rattle.model.specs.Steps.{Turn, turn_of, after_turn, step}
use Rattle.model.specs.Run.{run}
use Rattle.model.specs.Clocks.{Clocks, clocks_at_start, turn_clocks, best, settle, clocks_after, run_clocks}
use Rattle.model.proofs.Theory.Effects.{Passes}
use Rattle.model.proofs.Theory.FrameTree.{FrameTree, tree-step, tree-start}
use Rattle.model.proofs.Theory.MainEnds.{In-hasFrame, has_frame_In}
use Rattle.model.proofs.Theory.ViewNames.{turn_names, NamesOf, turn_all}
use Rattle.model.proofs.Theory.PostOrder.{InPostOrder}
use Rattle.model.proofs.Theory.NoTotals.{main_before}
use Rattle.model.proofs.Theory.SettleClocks.{settle-main, clock_names}
use Rattle.model.proofs.Theory.ClockNames.{clocks_turned, clocks_kept, clocks_step, clocks_start}

abbrev pub NoSpan : Machine → Clocks → Type 0
NoSpan M C = has_frame [] (live M) ≡ true → C.span ≡ 0

pub no_span_turn : (M : Machine) (t : Turn) (C : Clocks) → Passes M t → NamesOf (live M) (clock_names C.clocks) → NoSpan M C → NoSpan (after_turn M t) (clocks_turned M C t)
no_span_turn M t C h o z lives =
    let before = z (let y = o.alive [] (main_before M t ns main_in_lem) in In-hasFrame [] (live M) y.0 y.1 y.2) in
    let same = settle-main (λ n. has_frame n (live (after_turn M t))) [] (turn_clocks M t C.clocks) lives in
    let e : max C.span (best is_empty (settle (live (after_turn M t)) [] (turn_clocks M t C.clocks)).1) ≡ 0 = omega (arith, before, same) in e
  where
    ns : List Name
    ns = clock_names C.clocks

    main_in_lem : In [] (turn_names M t ns)
    main_in_lem = let f = has_frame_In [] (live (after_turn M t)) lives in subst (λ n. In n (turn_names M t ns)) f.2 (turn_all M t ns h o f.0 f.1)

pub no_span_step : (M : Machine) (s : Step) (C : Clocks) → NamesOf (live M) (clock_names C.clocks) → NoSpan M C → NoSpan (step M s) (clocks_after M C s)
no_span_step M s C o z = clocks_kept NoSpan M s C (λ h. no_span_turn M (turn_of s) C h o z) z

no_span_run : (M : Machine) (C : Clocks) (ss : List Step) → FrameTree M → InPostOrder (live M) (clock_names C.clocks) → NoSpan M C → NoSpan (run M ss) (run_clocks M C ss)
no_span_run M C [] tree o z = z
no_span_run M C (s ∷ ss) tree o z = no_span_run (step M s) (clocks_after M C s) ss (tree-step M s tree) (clocks_step M s C tree o) (no_span_step M s C o.names z)

pub no_span_yet : (w : ℕ) (vs : List ℕ) (nodes places : ℕ) (ss : List Step) → has_frame [] (live (run (start w vs nodes places) ss)) ≡ true → (run_clocks (start w vs nodes places) clocks_at_start ss).span ≡ 0
no_span_yet w vs nodes places ss = no_span_run (start w vs nodes places) clocks_at_start ss (tree-start w vs nodes places) (clocks_start w vs nodes places) (λ h. refl)
