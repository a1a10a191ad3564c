-- After w turns the deques of the first w workers are stored.
use Rattle.std.proofs.Common.{◌*◌, ◌+◌, ◌≡◌}
use Rattle.soundness.specs.Numbers.{number_count}
use Rattle.image.specs.Image.{deques_of}
use Rattle.image.specs.Inner.{put_words, sum_before}
use Rattle.image.proofs.deques.write_deques.Given as goal

abbrev pub invariant-loop-w : goal.invariant-loop-w
invariant-loop-w l = (l.target ≡ put_words l.fn.target number_count (deques_of l.w l.fn.k l.deques)) × (l.sum ≡ sum_before l.target (number_count + l.w * (1 + l.fn.k)))
