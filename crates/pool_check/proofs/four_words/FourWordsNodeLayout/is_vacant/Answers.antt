use Rattle.pool.specs.Pool.{right, value}
use Rattle.pool_check.specs.FourWords.{vacant}
use Rattle.pool_check.proofs.Laws.{fresh_test}
use Rattle.pool_check.proofs.four_words.FourWordsNodeLayout.is_vacant.Goals as goal

pub returns : goal.returns
unfolding vacant right value
returns c = rw (fresh_test c.args.work.now c.args.i)
