-- The chain left, from p on, is what the chain is from the first place on.
use Rattle.std.proofs.Common.{◌≡◌, ◌-◌}
use Rattle.frame_check.specs.Algorithm.{chain_from}
use Rattle.frame_check.proofs.places.follow_free.Given as goal

abbrev pub invariant-loop : goal.invariant-loop
invariant-loop l = chain_from l.frames (l.count - l.counter) l.p ≡ chain_from l.frames l.count l.first
