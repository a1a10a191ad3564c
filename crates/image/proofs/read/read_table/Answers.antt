use Rattle.std.proofs.Common.{ap, arith, length, subst, sym, ℕ, ◌*◌, ◌+◌, ◌∙◌, ◌≤◌}
use Rattle.frames.specs.Frames.{record_in}
use Rattle.frames.specs.Widths.{record_words}
use Rattle.soundness.specs.Layout.{two_words}
use Rattle.image.proofs.Table.{record_fits, record_read, stored_at, table_read}
use Rattle.image.proofs.Theory.Promises.{whole_block}
use Rattle.image.proofs.Theory.Version.{two_version}
use Rattle.image.specs.Image.{blocks_for}
use Rattle.image.specs.Inner.{read_words}
use Rattle.image.specs.Widths.{block_bytes}
use Rattle.image.proofs.read.read_table.Goals as goal

pub places_in-places-requires : goal.places_in-places-requires
places_in-places-requires c = whole_block two_words two_version c.args.image.now c.requires.0

pub read_record-f-requires : goal.read_record-f-requires
read_record-f-requires c =
    subst (λ (k : ℕ). block_bytes * blocks_for (10 + k + 12 * c.loop-p.p + record_words) ≤ length c.args.image.now) (sym c.deques_words-from.ensures.0)
    (record_fits c.args.image.now c.requires.0 c.places_in-places.result c.places_in-places.ensures c.loop-p.p c.loop-p-test.true)

pub loop-p-preserved : goal.loop-p-preserved
loop-p-preserved c =
    let a = c.args in
    let l = c.loop-p in
    let read = c.read_record-f.ensures ∙ ap (λ (k : ℕ). record_in (read_words record_words a.image.now (10 + k + 12 * l.p))) c.deques_words-from.ensures.0 in
    c.put_frame.ensures ∙ stored_at l.frames l.p _
    ∙ record_read a.image.now c.requires.0 c.places_in-places.result c.places_in-places.ensures a.frames.now l.frames _ l.p c.loop-p-test.true (c.requires.1 ∙ sym c.places_in-places.ensures) l.invariant read

pub returns : goal.returns
returns c =
    table_read c.args.image.now c.requires.0 c.places_in-places.result c.places_in-places.ensures c.args.frames.now c.loop-p.frames c.loop-p.p (omega arith)
    (c.requires.1 ∙ sym c.places_in-places.ensures) c.loop-p.invariant
