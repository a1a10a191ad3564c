-- What is counted below place p.
use Rattle.std.proofs.Common.{◌≡◌}
use Rattle.frame_check.specs.Algorithm.{census_to, child_in, step_in, tally}
use Rattle.frame_check.proofs.tallies.tally_children.Given as goal

abbrev pub invariant-loop-p : goal.invariant-loop-p
invariant-loop-p l = (l.tallies ≡ tally (step_in l.frames) l.p (child_in l.frames) l.initial.tallies) × (l.census ≡ census_to l.frames l.p)
