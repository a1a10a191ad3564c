-- What stands before the table, the table, what stands after it.
use Rattle.std.proofs.Common.{ap, sym, ℕ, ◌+◌, ◌∙◌, ◌≡◌}
use Rattle.soundness.specs.Numbers.{number_count}
use Rattle.image.proofs.Ends.{image_stored}
use Rattle.image.specs.Image.{place_count, table_words}
use Rattle.image.specs.Inner.{put_words}
use Rattle.image.specs.Widths.{deques_words}
use Rattle.image.proofs.write.write_image.Goals as goal

pub returns : goal.returns
returns c =
    let a = c.args in
    let begin : number_count + deques_words (place_count a.numbers.now) ≡ 10 + c.deques_words.result =
    sym (ap (λ (k : ℕ). 10 + k) c.deques_words.ensures.0 ∙ ap (λ (k : ℕ). number_count + deques_words k) c.requires.0.frames) in
    let table = c.write_table-sum.ensures.0 ∙ ap (λ (k : ℕ). put_words c.write_before-before.new.target k (table_words a.frames.now)) (sym begin) in
    image_stored a.numbers.now a.deques.now a.frames.now a.pool.now a.target.now _ _ _ c.requires.0 c.requires.1 c.requires.2 c.write_before-before.ensures.0 table c.write_after.ensures
