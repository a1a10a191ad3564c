-- Fours, then the few that are left.
use Rattle.std.proofs.Common.{arith, refl, ◌%◌, ◌*◌, ◌+◌, ◌/◌}
use Rattle.image.proofs.Loops.{words-next}
use Rattle.image.proofs.bytes.read_run.Goals as goal

pub returns : goal.returns
returns c =
    let a = c.args in
    let m = a.n / 4 in
    words-next a.to.now _ _ a.bytes.now a.at a.j (4 * m) (a.n % 4) a.n (a.j + 4 * m) (a.at + 16 * m) (omega arith) refl (omega arith) c.read_fours.ensures c.read_few.ensures
