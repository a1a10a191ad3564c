-- The nodes, then the rest of the last block.
use Rattle.std.proofs.Common.{get_or}
use Rattle.image.proofs.Ends.{after-stored}
use Rattle.image.proofs.write.write_after.Goals as goal

pub returns : goal.returns
returns c =
    let a = c.args in
    after-stored a.target.now _ _ a.pool.now (get_or a.numbers.now 9 0) (get_or a.numbers.now 2 0) c.state_words-state.result c.blocks_for-blocks.result c.state_words-state.ensures.0 c.requires.0
    c.blocks_for-blocks.ensures c.write_words-after_pool.ensures.stored c.write_rest.ensures
