-- No rest, or zeros and the check.
use Rattle.image.proofs.Ends.{rest-none, rest-stored}
use Rattle.image.proofs.write.write_rest.Goals as goal

pub returns-then-rest-eq0 : goal.returns-then-rest-eq0
returns-then-rest-eq0 c = rest-none c.args.target.now c.args.end c.args.blocks c.args.sum c.requires.1 c.requires.2 c.requires.3 c.if-rest-eq0.true

pub returns : goal.returns
returns c = rest-stored c.args.target.now c.args.end c.args.blocks c.args.sum c.requires.1 c.requires.2 c.requires.3 _ _ c.place_of.result c.if-rest-eq0.false c.place_of.ensures c.put_zeros.ensures c.put_word.ensures
