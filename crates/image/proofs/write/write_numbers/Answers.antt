-- The numbers, the first one with the version.
use Rattle.std.proofs.Common.{refl, sym}
use Rattle.image.proofs.Stores.{sum-none}
use Rattle.image.proofs.write.write_numbers.Goals as goal

pub write_run-requires-clause-sum_so_far : goal.write_run-requires-clause-sum_so_far
write_run-requires-clause-sum_so_far c = sym (sum-none c.args.target.now 0 refl)
