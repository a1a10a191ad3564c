-- The three ways out: `free_other`, `free_short`, `free_counted`.
use Rattle.splitter.proofs.Chains.{free_other, free_short, free_counted}
use Rattle.splitter.proofs.queries.splitter_free_nodes.Goals as goal

pub returns-then-numbers-ne-NUMBER_COUNT : goal.returns-then-numbers-ne-NUMBER_COUNT
returns-then-numbers-ne-NUMBER_COUNT c = free_other _ _ c.if-numbers-ne-NUMBER_COUNT.true

pub returns-then-pool-numbers : goal.returns-then-pool-numbers
returns-then-pool-numbers c = free_short _ _ c.if-numbers-ne-NUMBER_COUNT.false c.if-pool-numbers.true

pub returns : goal.returns
returns c = free_counted _ _ _ c.if-numbers-ne-NUMBER_COUNT.false c.if-pool-numbers.false c.count_free.ensures
