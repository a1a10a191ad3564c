-- The step is the tape of its record: `step_by_lem`.
use Rattle.std.proofs.Common.{rules, refl, ◌≡◌, ℕ}
use mathlib.Core.Path.{ap, ◌∙◌}
use Rattle.splitter.specs.OneRecord.{result_words}
use Rattle.splitter.proofs.Ways.{step_by_lem}
use Rattle.splitter.proofs.calls.splitter_step.Goals as goal

-- the words for the number n are those for k, which is the same
words_by : (r n k a b : ℕ) → r ≡ result_words n a b → n ≡ k → r ≡ result_words k a b
words_by r n k a b e q = e ∙ ap (λ m. result_words m a b) q

pub returns : goal.returns
returns c = step_by_lem _ _ _ _ _ _ _ _ _ _ _ _ _ _ _ _ _ (search rules) refl c.record_of-bytes.ensures c.tape-done.ensures (words_by _ _ _ _ _ c.result_words.ensures c.number_of.ensures)
