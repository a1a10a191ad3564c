-- To follow the chain from here gives what to follow the whole chain gives.
use Rattle.std.proofs.Common.{◌≡◌, ◌-◌}
use Rattle.pool_check.specs.Algorithm.{chain_from}
use Rattle.pool_check.proofs.free.follow_free.Given as goal

abbrev pub invariant-loop : goal.invariant-loop
invariant-loop g l = chain_from g.L.NodeLayout.reading l.nodes l.pool l.work (l.count - l.counter) l.a ≡ chain_from g.L.NodeLayout.reading l.nodes l.pool l.work l.count l.first
