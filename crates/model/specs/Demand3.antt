-- Demand 3 on the plain machine, for a run of `steps` from a start. The statement only; Theory.Demand3Proof proves it.
use Rattle.std.specs.Prelude.{◌≡◌, List, ◌↔◌, ℕ}
use Rattle.model.specs.declared.Step.{Step}
use Rattle.model.specs.Machine.{Name, free_nodes, start}
use Rattle.model.specs.Run.{Entry, run, trace, Returned, AllAccepted, IsFrame, steps_of, reads_of, one_worker_steps}

abbrev pub trace_of : ℕ → List ℕ → ℕ → ℕ → List Step → List Entry
trace_of workers values nodes places steps = trace (start workers values nodes places) steps

-- "The one-worker run starts with one worker, the same initial values and a pool of as many whole nodes."; "The one-worker
-- run has as many places" (R-6). Its list:
abbrev pub one_worker_of : ℕ → List ℕ → ℕ → ℕ → List Step → List Step
one_worker_of workers values nodes places steps = one_worker_steps (trace_of workers values nodes places steps)

-- "once Main has returned, no step of the one-worker run is refused, its frames have the same names, frames of the same name
-- have read equal lists of values, and after either run all recorded nodes lie once on the free chain". On the plain machine
-- the last is that all nodes are free. Besides, Main returns in the one-worker run, and frames of the same name took the
-- same steps
pub record Demand3 (workers : ℕ) (values : List ℕ) (nodes places : ℕ) (steps : List Step) : Type 0 where
  pub none_refused : AllAccepted (start 1 values nodes places) (one_worker_of workers values nodes places steps)
  pub returns : Returned (start 1 values nodes places) (one_worker_of workers values nodes places steps)
  pub same-frames : (p : Name) → IsFrame (trace_of 1 values nodes places (one_worker_of workers values nodes places steps)) p ↔ IsFrame (trace_of workers values nodes places steps) p
  pub same_steps : (p : Name) → steps_of p (trace_of 1 values nodes places (one_worker_of workers values nodes places steps)) ≡ steps_of p (trace_of workers values nodes places steps)
  pub same_reads : (p : Name) → reads_of p (trace_of 1 values nodes places (one_worker_of workers values nodes places steps)) ≡ reads_of p (trace_of workers values nodes places steps)
  pub all_free : free_nodes (run (start workers values nodes places) steps) ≡ nodes
  pub all_free_alone : free_nodes (run (start 1 values nodes places) (one_worker_of workers values nodes places steps)) ≡ nodes
