-- Four stores into ten words.
use Rattle.engine.proofs.NumberWords.{totals_stored}
use Rattle.engine.proofs.numbers.put_totals.Goals as goal

pub returns : goal.returns
returns c =
    totals_stored c.args.numbers.now _ _ _ _ (c.told-numbers)
