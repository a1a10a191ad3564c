-- The links left, from c on, are what the links are from the eldest on.
use Rattle.std.proofs.Common.{◌≡◌, ◌-◌}
use Rattle.frames.specs.Siblings.{chained}
use Rattle.frame_check.specs.Algorithm.{links_sound}
use Rattle.frame_check.proofs.links.siblings_sound.Given as goal

abbrev pub invariant-loop : goal.invariant-loop
invariant-loop l = chained (l.end - l.counter) l.frames l.q l.c ≡ links_sound l.frames l.q l.t
