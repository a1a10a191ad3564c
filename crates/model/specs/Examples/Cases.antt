-- A case: a start, steps, and the answers.
use Rattle.std.specs.Prelude.{List, ℕ}
use Rattle.model.specs.declared.Step.{Step}
use Rattle.model.specs.Machine.{start, free_nodes}
use Rattle.model.specs.Run.{run, answers}

pub record Case : Type 0 where
  pub workers : ℕ
  pub values : List ℕ
  pub nodes : ℕ
  pub steps : List Step
  pub expected : List (ℕ × ℕ)

abbrev pub answered : Case → List (ℕ × ℕ)
answered c = answers (start c.workers c.values c.nodes 64) c.steps

abbrev pub expected : Case → List (ℕ × ℕ)
expected c = c.expected

abbrev pub free_at_end : Case → ℕ
free_at_end c = free_nodes (run (start c.workers c.values c.nodes 64) c.steps)

abbrev pub nodes : Case → ℕ
nodes c = c.nodes
