-- The workers left are all idle iff all are.
use Rattle.std.proofs.Common.{◌≡◌, eqb}
use Rattle.words.specs.Basics.{all}
use Rattle.frames.specs.Widths.{max_workers}
use Rattle.frames.specs.Deques.{size}
use Rattle.engine.proofs.refusals.all_idle.Given as goal

abbrev pub invariant-loop-w : goal.invariant-loop-w
invariant-loop-w l = all l.w (λ w. eqb (size l.deques w) 0) ≡ all max_workers (λ w. eqb (size l.deques w) 0)
