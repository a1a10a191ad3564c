use Rattle.std.proofs.Common.{ap, arith, length, ℕ, ◌*◌, ◌+◌, ◌∙◌, ◌≡◌}
use Rattle.frames.specs.Widths.{record_words}
use Rattle.image.proofs.Loops.{at_end, take-all}
use Rattle.image.proofs.Table.{no_records, record_stored}
use Rattle.image.specs.Image.{table_words}
use Rattle.image.specs.Inner.{put_words, sum_before}
use Rattle.image.proofs.write.write_table.Goals as goal

pub loop-p-init : goal.loop-p-init
loop-p-init c =
    let e : c.args.i ≡ c.args.i + record_words * 0 = omega arith in
    (no_records c.args.target.now c.args.frames.now c.args.i, c.requires.2 ∙ ap (sum_before c.args.target.now) e)

pub loop-p-preserved : goal.loop-p-preserved
loop-p-preserved c =
    let a = c.args in
    let l = c.loop-p in
    let long : length c.words_of.result ≡ record_words = ap length c.words_of.ensures in
    let e : a.i + 12 * l.p + length c.words_of.result ≡ a.i + record_words * (l.p + 1) = omega arith in (
      record_stored a.target.now l.target _ a.frames.now l.p a.i _ c.loop-p-test.true l.invariant.0 (c.write_words-sum.ensures.stored ∙ ap (put_words l.target (a.i + 12 * l.p)) c.words_of.ensures),
      c.write_words-sum.ensures.sum_after ∙ ap (sum_before _) e,
    )

pub returns : goal.returns
returns c =
    let a = c.args in
    let l = c.loop-p in (
      take-all (λ fs. put_words a.target.now a.i (table_words fs)) a.frames.now c.loop-p-test.false l.invariant.0,
      at_end (λ (k : ℕ). sum_before l.target (a.i + record_words * k)) l.auto.p-end c.loop-p-test.false l.invariant.1,
    )
