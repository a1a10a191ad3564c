use Rattle.std.proofs.Common.{refl}
use Rattle.packed.specs.Pool.{content}
use Rattle.packed_check.proofs.TwoWordsNodeLayout.left.Goals as goal

pub returns : goal.returns
unfolding content
returns c = refl
