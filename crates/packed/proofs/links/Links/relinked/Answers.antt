use Rattle.std.proofs.Common.{arith}
use Rattle.packed.proofs.Words.{side_fits}
use Rattle.packed.proofs.links.Links.relinked.Goals as goal

pub invariant_of-result : goal.invariant_of-result
invariant_of-result c = record {
  left_fits = side_fits _ _ _ _ _ c.on_way.ensures (omega arith) c.args.self.left_fits;
  right_fits = side_fits _ _ _ _ _ c.on_way-2.ensures c.args.self.right_fits (omega arith);
}
