-- The ways out are in proofs/Ends.antt.
use Rattle.std.proofs.Common.{inl, inr, ap, arith, rules, sym, ◌<◌, ◌≤◌, ◌∙◌, ◌⊎◌}
use Rattle.image.proofs.Ends.{is_right, is_wrong, other_form, other_length_lem, too_short}
use Rattle.image.specs.Image.{blocks_for}
use Rattle.image.proofs.accept.check_image.Goals.{then-first-lt-VERSION-via-then-first-lt-VERSION, then-first-lt-VERSION-via-else-first-lt-VERSION+then-first}
use Rattle.image.proofs.accept.check_image.Goals as goal

pub returns-then-image-lt-BLOCK_BYTES : goal.returns-then-image-lt-BLOCK_BYTES
returns-then-image-lt-BLOCK_BYTES c = too_short c.args.image.now c.if-image-lt-BLOCK_BYTES.true

pub returns-then-first-lt-VERSION : goal.returns-then-first-lt-VERSION
returns-then-first-lt-VERSION c =
    let w = c.first_in-first.result in
    let out : (w < 1024) ⊎ (1280 ≤ w) = elim c.then-first-lt-VERSION.branch [
      | then-first-lt-VERSION-via-then-first-lt-VERSION b ↦ inl (omega (arith, b.if-first-lt-VERSION.true))
      | then-first-lt-VERSION-via-else-first-lt-VERSION+then-first b ↦ inr (omega (arith, b.if-first.true))
    ] in
    other_form c.args.image.now w c.first_in-first.ensures out

pub returns-then-image-blocks : goal.returns-then-image-blocks
returns-then-image-blocks c =
    other_length_lem c.args.image.now c.blocks_for-blocks.result (c.blocks_for-blocks.ensures ∙ ap blocks_for c.words_called-words.ensures.0) (λ e. omega arith)

pub returns-then-wrong_check : goal.returns-then-wrong_check
returns-then-wrong_check c =
    let w = c.first_in-first.result in
    let inside : (1024 ≤ w) × (w < 1280) = search rules in
    is_wrong c.args.image.now w c.blocks_for-blocks.result c.first_in-first.ensures inside
    (c.blocks_for-blocks.ensures ∙ ap blocks_for c.words_called-words.ensures.0) (omega arith) (sym c.wrong_check.ensures ∙ c.if-wrong_check.true)

pub returns : goal.returns
returns c =
    let w = c.first_in-first.result in
    let inside : (1024 ≤ w) × (w < 1280) = search rules in
    is_right c.args.image.now w c.blocks_for-blocks.result c.first_in-first.ensures inside
    (c.blocks_for-blocks.ensures ∙ ap blocks_for c.words_called-words.ensures.0) (omega arith) (sym c.wrong_check.ensures ∙ c.if-wrong_check.false)
