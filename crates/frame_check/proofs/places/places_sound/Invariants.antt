-- The answer for the places passed.
use Rattle.std.proofs.Common.{◌≡◌}
use Rattle.words.specs.Basics.{all}
use Rattle.frame_check.specs.Algorithm.{place_tallied}
use Rattle.frame_check.proofs.places.places_sound.Given as goal

abbrev pub invariant-loop-p : goal.invariant-loop-p
invariant-loop-p l = l.sound ≡ all l.p (place_tallied l.frames l.tallies)
