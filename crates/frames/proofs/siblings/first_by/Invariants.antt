-- The first from here is the first from the beginning.
use Rattle.std.proofs.Common.{◌≡◌, ◌-◌, length}
use Rattle.frames.specs.Siblings.{first_from}
use Rattle.frames.proofs.siblings.first_by.Given as goal

abbrev pub invariant-loop : goal.invariant-loop
invariant-loop l = first_from (length l.frames - l.counter) l.frames l.p ≡ first_from (length l.frames) l.frames l.q
