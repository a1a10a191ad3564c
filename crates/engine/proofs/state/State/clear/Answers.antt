use Rattle.std.proofs.Common.{rules, ◌≡◌, replicate, ℕ, List}
use mathlib.Core.Path.{◌∙◌, ap}
use Rattle.frames.specs.Widths.{deque_words}
use Rattle.soundness.specs.Numbers.{number_count}
use Rattle.semantics.specs.Promises.{parts}
use Rattle.engine.proofs.state.State.clear.Goals as goal

zero_words : (n k : ℕ) (l : List ℕ) → l ≡ replicate n 0 → n ≡ k → l ≡ replicate k 0
zero_words n k l e q = e ∙ ap (λ m. replicate m 0) q

pub returns-clause-zero : goal.returns-clause-zero
returns-clause-zero c =
    let n = zero_words _ number_count _ (c.fill.ensures.after (λ y e. e)) (search rules) in
    let d = zero_words _ deque_words _ (c.fill-2.ensures.after (λ y e. e)) (search rules) in
    λ i. parts (n i) (d i) c.args.self.now.frames.now
