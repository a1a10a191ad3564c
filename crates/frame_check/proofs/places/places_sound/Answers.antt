-- A place before the last live frame's is in the table; the end.
use Rattle.std.proofs.Common.{◌<◌, length, arith}
use Rattle.frame_check.proofs.Laws.{place_inside, places_end}
use Rattle.frame_check.proofs.places.places_sound.Goals as goal

pub bounds-tallies-p : goal.bounds-tallies-p
bounds-tallies-p c = let h : c.loop-p.p < length c.args.frames.now = place_inside c.args.frames.now c.args.tallies.now c.requires.live c.loop-p-test.true in omega arith

pub place_sound-sound-requires : goal.place_sound-sound-requires
place_sound-sound-requires c = place_inside c.args.frames.now c.args.tallies.now c.requires.live c.loop-p-test.true

pub returns : goal.returns
returns c = places_end c.args.frames.now c.args.tallies.now c.requires.live c.loop-p.invariant c.loop-p.auto.p-end c.loop-p-test.false
