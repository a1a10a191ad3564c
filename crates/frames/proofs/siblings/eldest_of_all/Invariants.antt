-- The words are the sums over the first c places.
use Rattle.std.proofs.Common.{◌≡◌, length}
use Rattle.frames.specs.Widths.{max_places}
use Rattle.frames.proofs.Ways.{Summed}
use Rattle.frames.proofs.siblings.eldest_of_all.Given as goal

abbrev pub invariant-loop-c : goal.invariant-loop-c
invariant-loop-c l = (length l.eldests ≡ max_places) × Summed l.frames l.c l.eldests
