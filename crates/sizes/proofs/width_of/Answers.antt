-- One node at a level of 32 or more, since n is below 2^32.
use Rattle.std.proofs.Common.{◌^◌, sym, le_trans, arith}
use lib.Pow.{pow_mono}
use Rattle.sizes.specs.Widths.{width_zero, width_pos, width_one}
use Rattle.sizes.proofs.width_of.Goals as goal

pub returns-then-n-eq0 : goal.returns-then-n-eq0
returns-then-n-eq0 c = rw c.if-n-eq0.true (sym (width_zero c.args.l))

pub returns-then-l-ge32 : goal.returns-then-l-ge32
returns-then-l-ge32 c = sym (width_one c.args.n c.args.l (omega arith) (le_trans {m = 2 ^ 32} (omega arith) (pow_mono c.if-l-ge32.true)))

pub returns : goal.returns
returns c = sym (width_pos c.args.n c.args.l (omega arith))
