-- The numbers, then the deques.
use Rattle.std.proofs.Common.{arith, get_or}
use Rattle.soundness.specs.Layout.{two_words}
use Rattle.image.proofs.Stores.{put_next}
use Rattle.image.proofs.Theory.Version.{length-versioned, two_version}
use Rattle.image.specs.Image.{deques_for, versioned}
use Rattle.image.proofs.write.write_before.Goals as goal

pub returns : goal.returns
returns c =
    let a = c.args in
    let ns = a.numbers.now in (
      put_next a.target.now _ _ (versioned two_words ns) (deques_for (get_or ns 9 0) a.deques.now) 0 10 c.write_numbers-after_numbers.ensures.stored (omega (arith, length-versioned two_words two_version ns, c.told-numbers)) c.write_deques.ensures.0,
      c.write_deques.ensures.1,
    )
