-- Demand 3 on the plain machine.
use Rattle.std.specs.Prelude.{◌≡◌, refl, ◌↔◌, List, [], ◌∷◌, map, ℕ, suc, ◌+◌, ◌≤◌, length}
use Rattle.std.proofs.Common.{sym, ap, ◌∙◌, subst, inl, inr, le_refl, arith}
use mathlib.Core.List.Memᴰ.{eq_of_singleton as In-one}
use mathlib.Core.List.Memᴰ.{head as here}
use mathlib.Core.List.Memᴰ.{not-nil as not-in-nil}
use Rattle.model.specs.declared.Step.{Step}
use Rattle.model.specs.Machine.{Name, Machine, live, in_use, free_nodes, main, start}
use Rattle.model.specs.Run.{run, Returned, Entry, entries_of, steps_of, reads, reads_of, spawns, IsFrame, child_first_list}
use Rattle.model.specs.Demand3.{trace_of, one_worker_of, Demand3}
use Rattle.model.proofs.Theory.Names.{owns_or_not}
use Rattle.model.proofs.Theory.ChildFirst.{child_first, of_foreign}
use Rattle.model.proofs.Theory.Histories.{in_use-none}
use Rattle.model.proofs.Theory.LiveRun.{LiveRun, Disjoint}
use Rattle.model.proofs.Theory.StepsKept.{unowned, steps_kept}
use Rattle.model.proofs.Theory.LiteralList.{list_eq, list_is}
use Rattle.model.proofs.Theory.Effects.{live-start}
use Rattle.model.proofs.Theory.RunSteps.{sizes_run}
use Rattle.model.proofs.Theory.RunLive.{live-run}
use Rattle.model.proofs.Theory.Deques.{deques-start}
use Rattle.model.proofs.Theory.OneWorker.{solo, Performs, performs_accepted, performs_run, performs_trace, child-first_runs}
use Rattle.model.proofs.Theory.FrameTree.{tree-start}
use Rattle.model.proofs.Theory.MainEnds.{returned_ends, ends_returned}

pub free_when_over : (M : Machine) → live M ≡ [] → free_nodes M ≡ M.nodes
free_when_over M e = let z : in_use M.splitters (live M) ≡ 0 = ap (in_use M.splitters) e ∙ in_use-none M.splitters in omega arith

same-frame : (es fs : List Entry) → ((p : Name) → steps_of p es ≡ steps_of p fs) → (p : Name) → IsFrame es p ↔ IsFrame fs p
same-frame es fs h [] = ((λ u. u), (λ u. u))
same-frame es fs h (k ∷ p) = ((λ u. (u.0, subst (λ z. k ≤ spawns z) (h p) u.1)), (λ u. (u.0, subst (λ z. k ≤ spawns z) (sym (h p)) u.1)))

module _ (w : ℕ) (vs : List ℕ) (nodes places : ℕ) (ss : List Step) (returned : Returned (start w vs nodes places) ss) where
  over : live (run (start w vs nodes places) ss) ≡ []
  over = returned_ends (start w vs nodes places) ss (tree-start w vs nodes places) returned

  pub run_of : LiveRun (length vs) nodes places (main vs ∷ []) (trace_of w vs nodes places ss)
  run_of = subst (λ L. LiveRun (length vs) nodes places L (trace_of w vs nodes places ss)) (live-start w vs nodes places) (live-run (length vs) nodes places (start w vs nodes places) ss refl refl refl (tree-start w vs nodes places) (deques-start w vs nodes places) over)

  pub disjoint : Disjoint (main vs ∷ [])
  disjoint = ((λ g m r o o'. not-in-nil m), tt)

  -- Main's child-first list, entries and all
  abbrev list : List Entry
  list = child_first_list (suc (length (trace_of w vs nodes places ss))) (trace_of w vs nodes places ss) []

  pub main_at_lem : (fuel : ℕ) → length (trace_of w vs nodes places ss) ≤ fuel → child_first_list (suc fuel) (trace_of w vs nodes places ss) [] ≡ child_first (trace_of w vs nodes places ss) [] 1
  main_at_lem fuel h = list_is (length vs) nodes places run_of disjoint (main vs) (here refl) refl fuel h

  pub main_list : list ≡ child_first (trace_of w vs nodes places ss) [] 1
  main_list = main_at_lem (length (trace_of w vs nodes places ss)) (le_refl (length (trace_of w vs nodes places ss)))

  performs : Performs list (start 1 vs nodes places) (solo (length vs) nodes places [])
  performs = subst (λ z. Performs z (start 1 vs nodes places) (solo (length vs) nodes places [])) (sym main_list) (child-first_runs (length vs) nodes places run_of disjoint (main vs) [] (here refl) refl (refl, tt))

  -- the one-worker run's trace is the child-first list itself
  pub same-trace : trace_of 1 vs nodes places (one_worker_of w vs nodes places ss) ≡ list
  same-trace = performs_trace list (start 1 vs nodes places) (solo (length vs) nodes places []) performs

  pub same_of_name : (p : Name) → entries_of p list ≡ entries_of p (trace_of w vs nodes places ss)
  same_of_name p =
      ap (entries_of p) main_list ∙
      elim (owns_or_not [] 0 p) [
        | inl o ↦ steps_kept (length vs) nodes places run_of disjoint (main vs) (here refl) refl p o
        | inr o ↦ of_foreign p (trace_of w vs nodes places ss) [] 0 o ∙ sym (unowned run_of p (λ f m l o'. o (rw (In-one m) at o')))
      ]

  same_actions : (p : Name) → steps_of p (trace_of 1 vs nodes places (one_worker_of w vs nodes places ss)) ≡ steps_of p (trace_of w vs nodes places ss)
  same_actions p = ap (steps_of p) same-trace ∙ ap (map (λ e. e.action)) (same_of_name p)

  over_alone : live (run (start 1 vs nodes places) (one_worker_of w vs nodes places ss)) ≡ []
  over_alone = ap live (performs_run list (start 1 vs nodes places) (solo (length vs) nodes places []) performs)

  pub demand3 : Demand3 w vs nodes places ss
  demand3 = record {
    none_refused = performs_accepted list (start 1 vs nodes places) (solo (length vs) nodes places []) performs;
    returns = ends_returned (start 1 vs nodes places) (one_worker_of w vs nodes places ss) (tree-start 1 vs nodes places) refl over_alone;
    same-frames = same-frame (trace_of 1 vs nodes places (one_worker_of w vs nodes places ss)) (trace_of w vs nodes places ss) same_actions;
    same_steps = same_actions;
    same_reads = λ p. ap (reads_of p) same-trace ∙ ap reads (same_of_name p);
    all_free = free_when_over (run (start w vs nodes places) ss) over ∙ (sizes_run (start w vs nodes places) ss).nodes;
    all_free_alone = free_when_over (run (start 1 vs nodes places) (one_worker_of w vs nodes places ss)) over_alone ∙ (sizes_run (start 1 vs nodes places) (one_worker_of w vs nodes places ss)).nodes;
  }

-- the one-worker run has the same child-first list
pub same_list : (w : ℕ) (vs : List ℕ) (nodes places : ℕ) (ss : List Step) → Returned (start w vs nodes places) ss → child_first (trace_of 1 vs nodes places (one_worker_of w vs nodes places ss)) [] 1 ≡ child_first (trace_of w vs nodes places ss) [] 1
same_list w vs nodes places ss returned =
    sym (main_at_lem 1 vs nodes places (one_worker_of w vs nodes places ss) (demand3 w vs nodes places ss returned).returns fuel (omega arith))
    ∙ list_eq (suc fuel) alone given [] (λ r o. ap (entries_of r) (same-trace w vs nodes places ss returned) ∙ same_of_name w vs nodes places ss returned r)
    ∙ main_at_lem w vs nodes places ss returned fuel (omega arith)
  where
    alone : List Entry
    alone = trace_of 1 vs nodes places (one_worker_of w vs nodes places ss)

    given : List Entry
    given = trace_of w vs nodes places ss

    fuel : ℕ
    fuel = length alone + length given
