use Rattle.std.proofs.Common.{refl}
use Rattle.pool.specs.Pool.{right}
use Rattle.pool_check.proofs.four_words.FourWordsNodeLayout.right.Goals as goal

pub returns : goal.returns
unfolding right
returns c = refl
