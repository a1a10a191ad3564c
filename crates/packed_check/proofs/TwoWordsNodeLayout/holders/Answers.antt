use Rattle.std.proofs.Common.{refl}
use Rattle.packed.specs.Pool.{refcount}
use Rattle.packed_check.proofs.TwoWordsNodeLayout.holders.Goals as goal

pub returns : goal.returns
unfolding refcount
returns c = refl
