-- The bytes are those of the cut fields: `bytes_made`, and these decode to them: `record_made`, both in the specs' Theory.OneRecord.
use Rattle.std.proofs.Common.{arith}
use Rattle.splitter.specs.Theory.OneRecord.{bytes_made, record_made}
use Rattle.splitter.proofs.calls.record_of.Goals as goal

pub returns : goal.returns
returns c =
    let a = c.args in
    record_made _ a.kind a.worker a.field a.value c.min-2.result c.min-3.result c.min.result (omega arith) c.min-2.ensures c.min-3.ensures c.min.ensures
    (bytes_made _ _ _ _ _ _ (omega (arith, c.min-2.ensures)) (omega (arith, c.min-3.ensures)) c.to_le_bytes.ensures c.to_le_bytes-2.ensures)
