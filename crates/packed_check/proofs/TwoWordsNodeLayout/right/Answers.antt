use Rattle.std.proofs.Common.{refl}
use Rattle.packed.specs.Pool.{content}
use Rattle.packed_check.proofs.TwoWordsNodeLayout.right.Goals as goal

pub returns : goal.returns
unfolding content
returns c = refl
