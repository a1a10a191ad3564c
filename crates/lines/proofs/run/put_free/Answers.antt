-- The line of the nodes counted along the chain.
use Rattle.lines.proofs.LastLines.{free_written}
use Rattle.lines.proofs.Writes.{writes_then}
use Rattle.lines.proofs.run.put_free.Goals as goal

pub returns : goal.returns
returns c =
    free_written c.args.numbers.now c.args.pool.now _ _ _ c.at_or.type_inv c.at_or.ensures c.at_or-2.ensures c.count_free-free.ensures
    (writes_then c.bytes.ensures (writes_then c.number.ensures c.byte.ensures))
