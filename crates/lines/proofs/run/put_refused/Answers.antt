-- The word and the number are the line.
use Rattle.lines.proofs.Sizes.{refused_short}
use Rattle.lines.proofs.Writes.{writes_then}
use Rattle.lines.proofs.run.put_refused.Goals as goal

pub returns : goal.returns
returns c = (writes_then c.bytes.ensures c.line.ensures, refused_short c.args.refusal c.ranges.refusal.fits)
