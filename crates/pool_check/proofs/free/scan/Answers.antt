-- No more nodes were unvisited than there are.
use Rattle.std.proofs.Common.{arith}
use Rattle.pool_check.specs.Theory.FreeList.{unvisited_le}
use Rattle.pool_check.proofs.free.scan.Goals as goal

pub overflow_add-free : goal.overflow_add-free
overflow_add-free g c = record { fits = omega (arith, c.loop-i.invariant.1, unvisited_le c.loop-i.i c.args.work.now, c.is_fresh-free.ensures) }
