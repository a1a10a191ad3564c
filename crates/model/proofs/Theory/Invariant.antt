-- What holds of the machine at every point of a run from a start.
use Rattle.std.specs.Prelude.{List, ℕ, ◌≤◌, length}
use Rattle.sizes.specs.Sizes.{tree_nodes}
use Rattle.model.specs.declared.Step.{Step}
use Rattle.model.specs.Machine.{Machine, live, start}
use Rattle.model.specs.Steps.{Turn, after_turn, step}
use Rattle.model.specs.Run.{run}
use Rattle.model.proofs.Theory.Effects.{Passes}
use Rattle.model.proofs.Theory.RunSteps.{step_kept, run_kept, sizes_turn}
use Rattle.model.proofs.Theory.FrameTree.{FrameTree, tree_turn, tree-start}
use Rattle.model.proofs.Theory.DequeShape.{DequeInvariant}
use Rattle.model.proofs.Theory.Deques.{deques_turn, deques-start}
use Rattle.model.proofs.Theory.PoolBound.{WithinPool, pool_turn, pool_start}
use Rattle.model.proofs.Theory.FreshMarks.{MarkInvariant, marks_turn, marks_start}
use Rattle.model.proofs.Theory.Bounds.{Bounded, bounded_turn, bounded_start}

pub record Invariant (M : Machine) : Type 0 where
  pub tree : FrameTree M
  pub deques : DequeInvariant M
  pub pool : WithinPool M
  pub marks : MarkInvariant (live M)
  pub bounds : Bounded M.splitters M.places (live M)

pub invariant_start : (w : ℕ) (vs : List ℕ) (nodes places : ℕ) → tree_nodes (length vs) ≤ nodes → 1 ≤ places → Invariant (start w vs nodes places)
invariant_start w vs nodes places h p = record {
  tree = tree-start w vs nodes places;
  deques = deques-start w vs nodes places;
  pool = pool_start w vs nodes places h;
  marks = marks_start w vs nodes places;
  bounds = bounded_start w vs nodes places p;
}

pub invariant_turn : (M : Machine) (t : Turn) → Passes M t → Invariant M → Invariant (after_turn M t)
invariant_turn M t h i = record {
  tree = tree_turn M t h i.tree;
  deques = deques_turn M t h i.tree i.deques;
  pool = pool_turn M t h i.pool;
  marks = marks_turn M t h i.tree i.marks;
  bounds = rw ((sizes_turn M t).splitters, (sizes_turn M t).places) (bounded_turn M t h i.bounds);
}

pub invariant_step : (M : Machine) (s : Step) → Invariant M → Invariant (step M s)
invariant_step M s i = step_kept Invariant M (invariant_turn M) s i

pub invariant_run : (M : Machine) (ss : List Step) → Invariant M → Invariant (run M ss)
invariant_run M ss i = run_kept Invariant invariant_step M ss i
