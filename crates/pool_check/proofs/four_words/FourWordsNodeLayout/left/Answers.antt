use Rattle.std.proofs.Common.{refl}
use Rattle.pool.specs.Pool.{left}
use Rattle.pool_check.proofs.four_words.FourWordsNodeLayout.left.Goals as goal

pub returns : goal.returns
unfolding left
returns c = refl
