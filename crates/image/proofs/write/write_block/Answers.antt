-- The words, then the check.
use Rattle.std.proofs.Common.{arith, drop, length-drop, length-take-le, sym, take, ◌*◌}
use Rattle.image.proofs.Ends.{run_full}
use Rattle.image.proofs.Stores.{sum-none}
use Rattle.image.proofs.write.write_block.Goals as goal

pub returns : goal.returns
returns c =
    let a = c.args in
    run_full (take 127 (drop a.j a.from.now)) a.target.now _ (127 * a.b) 127 (512 * a.b) 0 c.put_run-sum.result
    (length-take-le 127 (drop a.j a.from.now) (omega (arith, length-drop a.j a.from.now))) (omega arith) (omega arith) (sym (sum-none a.target.now (127 * a.b) (omega arith))) c.put_run-sum.ensures.stored c.put_run-sum.ensures.summed
    _ _ (omega arith) (omega arith) c.put_word.ensures
