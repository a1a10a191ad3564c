use Rattle.std.proofs.Common.{arith, drop, get_or, length, refl, rules, take, ◌+◌, ◌<◌, ◌∙◌}
use Rattle.std.proofs.lemmas.List.Edits.{sets}
use Rattle.words.specs.Basics.{plus}
use Rattle.image.proofs.Loops.{at_end, run-start, run-sum, run_turn}
use Rattle.image.specs.Image.{bytes_of, check}
use Rattle.image.proofs.bytes.put_run.Goals as goal

pub loop-k-init : goal.loop-k-init
unfolding bytes_of
loop-k-init c = (refl, run-start c.args.from.now c.args.before c.args.j (search rules))

pub loop-k-preserved : goal.loop-k-preserved
loop-k-preserved c =
    let a = c.args in
    let l = c.loop-k in
    let in_from : a.j + l.k < length a.from.now = omega arith in
    let word : get_or a.from.now (a.j + l.k) 0 < 4294967296 = (c.type_inv.from (a.j + l.k)).fits in (
      c.put_word.ensures ∙ run_turn a.bytes.now l.bytes a.from.now a.at a.j l.k in_from l.invariant.0,
      run-sum a.from.now a.before l.sum _ a.j l.k in_from word refl l.invariant.1,
    )

pub returns : goal.returns
returns c = record {
  stored = at_end (λ m. sets c.args.bytes.now c.args.at (bytes_of (take m (drop c.args.j c.args.from.now)))) c.loop-k.auto.k-end c.loop-k-test.false c.loop-k.invariant.0;
  summed = at_end (λ m. plus c.args.before (check (bytes_of (take m (drop c.args.j c.args.from.now))))) c.loop-k.auto.k-end c.loop-k-test.false c.loop-k.invariant.1;
}
