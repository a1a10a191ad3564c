use Rattle.pool_check.proofs.Laws.{check_out, check_roomy, check_in}
use Rattle.pool_check.proofs.check_pool.Goals as goal

pub returns-then-not-in_bounds : goal.returns-then-not-in_bounds
returns-then-not-in_bounds g c =
    check_out g.L.NodeLayout.reading g.met.L.NodeLayout.answers c.args.n c.args.nodes c.args.first c.args.frames.now c.args.pool.now c.args.work.now c.requires.0 c.clear.ensures c.in_bounds.ensures c.if-not-in_bounds.true

pub visit_places-visited-requires : goal.visit_places-visited-requires
visit_places-visited-requires g c =
    (check_roomy g.L.NodeLayout.reading g.met.L.NodeLayout.answers c.args.n c.args.nodes c.args.first c.args.frames.now c.args.pool.now c.args.work.now c.requires.0 c.clear.ensures c.in_bounds.ensures c.if-not-in_bounds.false, c.requires.1)

pub returns : goal.returns
returns g c =
    check_in g.L.NodeLayout.reading g.met.L.NodeLayout.answers c.args.n c.args.nodes c.args.first c.args.frames.now c.args.pool.now c.args.work.now c.requires.0 c.clear.ensures c.in_bounds.ensures c.if-not-in_bounds.false c.visit_places-visited.ensures c.conclude.ensures
