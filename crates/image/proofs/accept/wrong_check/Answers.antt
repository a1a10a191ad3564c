-- A check is wrong, or the rest decides.
use Rattle.std.proofs.Common.{sym, ◌∙◌}
use Rattle.image.proofs.Ends.{checks_wrong, rest_tested}
use Rattle.image.proofs.accept.wrong_check.Goals as goal

pub returns-then-not-checks_right : goal.returns-then-not-checks_right
returns-then-not-checks_right c =
    checks_wrong c.args.image.now c.args.blocks c.requires.called.1 (sym c.checks_right.ensures ∙ c.if-not-checks_right.true)

pub returns : goal.returns
returns c =
    rest_tested c.args.image.now c.args.blocks c.args.words c.zeros.result c.requires.called.1 c.requires.called.0 c.requires.whole
    (sym c.checks_right.ensures ∙ c.if-not-checks_right.false)
    c.zeros.ensures
