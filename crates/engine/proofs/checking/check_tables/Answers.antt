use Rattle.engine.proofs.Checks.{few_places}
use Rattle.engine.proofs.checking.check_tables.Goals as goal

pub check_frames-requires : goal.check_frames-requires
check_frames-requires g c = few_places g.L.NodeLayout.reading.layout _ c.args.deques.now _ _ _ c.check_numbers.ensures c.if-not-check_numbers.false
