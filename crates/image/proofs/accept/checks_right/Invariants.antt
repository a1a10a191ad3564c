-- The loop keeps the answer for the blocks that are left.
use Rattle.std.proofs.Common.{drop, ◌*◌, ◌-◌, ◌≡◌}
use Rattle.image.specs.Image.{checks_hold}
use Rattle.image.proofs.accept.checks_right.Given as goal

abbrev pub invariant-loop-k : goal.invariant-loop-k
invariant-loop-k l = checks_hold (l.fn.n - l.k) (drop (512 * l.k) l.image) ≡ checks_hold l.fn.n l.image
