-- The pairs are those of the answer words.
use Rattle.std.specs.Prelude.{List, [], ◌∷◌, ℕ, eqb}
use Rattle.std.specs.List.{list_any}
use Rattle.std.specs.Cmp.Lexicographic.{pointwise}
use Rattle.std.proofs.Common.{ap, ◌∙◌}
use Rattle.lines.proofs.Pairs.{pairs_returned}
use Rattle.lines.proofs.run.main_returned.Goals as goal

pub returns : goal.returns
returns c =
    c.contains.ensures.value
    ∙ ap (λ (ps : List (List ℕ)). list_any (λ p. pointwise eqb p (102 ∷ 3 ∷ [])) ps) c.as_chunks.ensures.front
    ∙ pairs_returned c.args.answers.now
