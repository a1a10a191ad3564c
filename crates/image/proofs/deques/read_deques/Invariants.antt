-- After w turns the deques of the first w workers are read, and zeros follow.
use Rattle.std.proofs.Common.{◌≡◌}
use Rattle.image.proofs.Workers.{read_so_far}
use Rattle.image.proofs.deques.read_deques.Given as goal

abbrev pub invariant-loop-w : goal.invariant-loop-w
invariant-loop-w l = l.deques ≡ read_so_far l.image l.fn.k l.w
