-- The rest of a block, whole blocks, a block's beginning.
use Rattle.std.proofs.Common.{length, refl, ℕ, ◌-◌, ◌/◌}
use Rattle.image.proofs.Ends.{all-stored}
use Rattle.image.proofs.Loops.{length_data_words}
use Rattle.image.proofs.Parts.{all_read}
use Rattle.image.specs.Inner.{read_words}
use Rattle.image.proofs.read.read_words.Goals as goal

pub returns : goal.returns
returns c =
    let a = c.args in
    let n : ℕ = length a.to.now in
    let h : ℕ = c.run_length-first.result in
    let m : ℕ = (n - h) / 127 in
    all-stored a.to.now _ (read_words n a.image.now a.i) (length_data_words n a.image.now a.i)
    (all_read a.i n h m c.run_length-first.ensures refl a.image.now a.to.now _ _ _ c.place_of.result c.place_of-2.result c.place_of.ensures c.place_of-2.ensures c.read_run.ensures c.read_blocks.ensures c.read_run-2.ensures)
