-- The rest of a block, whole blocks, a block's beginning.
use Rattle.std.proofs.Common.{ap, arith, length, refl, take_all, ℕ, ◌-◌, ◌/◌, ◌∙◌}
use Rattle.image.proofs.Parts.{all-stored, sum_kept}
use Rattle.image.specs.Inner.{put_words}
use Rattle.image.proofs.write.write_words.Goals as goal

pub write_run-requires-clause-sum_so_far : goal.write_run-requires-clause-sum_so_far
write_run-requires-clause-sum_so_far c =
    let a = c.args in
    let n : ℕ = length a.from.now in
    let h : ℕ = c.run_length-first.result in
    sum_kept a.i n h ((n - h) / 127) c.run_length-first.ensures refl a.from.now a.target.now _ _ (omega arith) c.write_run-sum.ensures.stored c.write_blocks.ensures _ c.write_run-sum.ensures.sum_after

pub returns-clause-stored : goal.returns-clause-stored
returns-clause-stored c =
    let a = c.args in
    let n : ℕ = length a.from.now in
    let h : ℕ = c.run_length-first.result in
    all-stored a.i n h ((n - h) / 127) c.run_length-first.ensures refl a.from.now a.target.now _ _ (omega arith) c.write_run-sum.ensures.stored c.write_blocks.ensures _ c.write_run.ensures.stored
    ∙ ap (put_words a.target.now a.i) (take_all n a.from.now (omega arith))
