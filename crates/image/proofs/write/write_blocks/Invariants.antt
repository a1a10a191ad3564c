-- After k turns the first k blocks are stored.
use Rattle.std.proofs.Common.{drop, take, ◌*◌, ◌≡◌}
use Rattle.image.specs.Inner.{put_words}
use Rattle.image.proofs.write.write_blocks.Given as goal

abbrev pub invariant-loop-k : goal.invariant-loop-k
invariant-loop-k l = l.target ≡ put_words l.fn.target (127 * l.b) (take (127 * l.k) (drop l.j l.from))
