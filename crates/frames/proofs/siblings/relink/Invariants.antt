-- To relink from here gives the whole relink.
use Rattle.std.proofs.Common.{◌≡◌, ◌-◌, length}
use Rattle.frames.specs.Siblings.{relink_from, relink}
use Rattle.frames.proofs.siblings.relink.Given as goal

abbrev pub invariant-loop-c : goal.invariant-loop-c
invariant-loop-c l = relink_from (length l.frames - l.c) l.frames l.q l.x l.y l.c ≡ relink l.fn.frames l.q l.x l.y
