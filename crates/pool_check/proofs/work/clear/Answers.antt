-- Too few words, or zeros in the first n.
use Rattle.std.proofs.Common.{◌∙◌, ◌++◌, ℕ, List, sym, ap, drop, replicate}
use Rattle.std.proofs.lemmas.List.{length-take-le}
use borrow.Author.Tests.{lt-leb}
use Rattle.pool_check.specs.Theory.Cleared.{clear_no, clear_yes}
use Rattle.pool_check.proofs.work.clear.Goals as goal

pub returns-then-end-work : goal.returns-then-end-work
returns-then-end-work c = sym (clear_no _ _ (lt-leb _ _ c.if-end-work.true))

pub returns : goal.returns
returns c =
    ap (λ (ks : List ℕ). ks ++ drop c.args.n c.args.work.now) (c.fill.ensures.after (λ y e. e) ∙ ap (λ (k : ℕ). replicate k 0) (length-take-le c.args.n c.args.work.now c.if-end-work.false)) ∙ sym (clear_yes _ _ c.if-end-work.false)
