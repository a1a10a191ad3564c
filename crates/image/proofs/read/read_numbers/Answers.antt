-- The words, then the remainder.
use Rattle.std.proofs.Common.{arith, length, refl}
use Rattle.image.proofs.Ends.{numbers_fit, numbers_read}
use Rattle.image.proofs.read.read_numbers.Goals as goal

pub read_words-requires : goal.read_words-requires
read_words-requires c = omega (arith, numbers_fit c.args.image.now c.requires)

pub returns : goal.returns
returns c = numbers_read c.args.image.now c.requires (length c.args.numbers.now) _ _ c.told-numbers c.read_words.ensures refl
