-- How it begins, and a turn.
use Rattle.std.proofs.Common.{rules}
use Rattle.frames.specs.Frames.{frame_at}
use Rattle.frame_check.specs.Algorithm.{end_to, tally}
use Rattle.frame_check.proofs.Laws.{passed_turn}
use Rattle.frame_check.proofs.tallies.tally_children.Goals as goal

pub loop-p-init : goal.loop-p-init
unfolding tally end_to
loop-p-init c = search rules

pub loop-p-preserved : goal.loop-p-preserved
unfolding frame_at
loop-p-preserved c =
    passed_turn c.args.frames.now c.args.tallies.now c.requires c.told-tallies c.loop-p.p c.loop-p-test.true c.loop-p.invariant c.tally_child-census.ensures.tallied c.tally_child-census.ensures.counted
