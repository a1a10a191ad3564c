use Rattle.words.specs.Basics.{none}
use borrow.Author.Tests.{eq-eqb, ne_eqb}
use Rattle.pool.specs.Pool.{left, right, value}
use Rattle.pool_check.proofs.Laws.{shaped-inner, shaped_leaf}
use Rattle.pool_check.proofs.four_words.FourWordsNodeLayout.is_shaped.Goals as goal

pub returns-then-level-ne0 : goal.returns-then-level-ne0
unfolding value
returns-then-level-ne0 c = rw (shaped-inner _ _ _ c.if-level-ne0.true)

pub returns-then-pool-i : goal.returns-then-pool-i
unfolding left
returns-then-pool-i c = rw (shaped_leaf _ _ _ c.if-level-ne0.false, ne_eqb _ none c.if-pool-i.true)

pub returns : goal.returns
unfolding left right
returns c = rw (shaped_leaf _ _ _ c.if-level-ne0.false, eq-eqb _ none c.if-pool-i.false)
