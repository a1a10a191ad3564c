use Rattle.std.proofs.Common.{refl}
use Rattle.pool.specs.Pool.{refcount}
use Rattle.pool_check.proofs.four_words.FourWordsNodeLayout.holders.Goals as goal

pub returns : goal.returns
unfolding refcount
returns c = refl
