use Rattle.engine.proofs.Checks.{no_room}
use Rattle.engine.proofs.checking.check_state.Goals as goal

pub returns-then-work-n : goal.returns-then-work-n
returns-then-work-n g c =
    let s = c.args.state in
    no_room g.L.NodeLayout.reading.layout s.numbers.now s.deques.now s.frames.now c.args.pool.now _ _ c.numbers_in-n.ensures c.if-work-n.true
