-- The run, and the check of a full block.
use Rattle.std.proofs.Common.{arith, drop, length-drop, length-take-le, sym, take, ◌+◌}
use Rattle.image.proofs.Ends.{run_full, run_open}
use Rattle.image.proofs.Stores.{sum-none}
use Rattle.image.proofs.write.write_run.Goals as goal

pub returns-then-i-n-lt-DATA_WORDS : goal.returns-then-i-n-lt-DATA_WORDS
returns-then-i-n-lt-DATA_WORDS c =
    let a = c.args in
    let open_run = run_open (take a.n (drop a.j a.from.now)) a.target.now _ a.i a.n c.place_of-at.result a.before c.put_run-sum.result
    (length-take-le a.n (drop a.j a.from.now) (omega (arith, length-drop a.j a.from.now))) (omega arith) c.place_of-at.ensures c.requires.sum_so_far c.put_run-sum.ensures.stored c.put_run-sum.ensures.summed c.if-i-n-lt-DATA_WORDS.true in
    record { stored = open_run.0; sum_after = open_run.1 }

pub returns : goal.returns
returns c =
    let a = c.args in
    record {
      stored = run_full (take a.n (drop a.j a.from.now)) a.target.now _ a.i a.n c.place_of-at.result a.before c.put_run-sum.result
          (length-take-le a.n (drop a.j a.from.now) (omega (arith, length-drop a.j a.from.now))) (omega arith) c.place_of-at.ensures c.requires.sum_so_far c.put_run-sum.ensures.stored c.put_run-sum.ensures.summed _ _ (omega arith) (omega arith) c.put_word.ensures;
      sum_after = sym (sum-none _ (a.i + a.n) (omega arith));
    }
