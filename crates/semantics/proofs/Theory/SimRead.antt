-- A read answers the value at its place in the bottom frame's list, and changes nothing.
use Rattle.std.specs.Prelude.{◌≡◌, ℕ}
use Rattle.std.proofs.Math.Path.{ap}
use Rattle.model.specs.Machine.{Machine}
use Rattle.model.specs.Steps.{read, acting, after_turn, turn_answer, value_at}
use Rattle.model.proofs.Theory.Effects.{Passes, acts}
use Rattle.semantics.specs.Answers.{answer_words}
use Rattle.semantics.specs.Core.{Core, acting_in, read_on}
use Rattle.semantics.proofs.Theory.Relation.{Trees, Relates, Keeps}
use Rattle.semantics.proofs.Theory.Places.{acting-frame}
use Rattle.semantics.proofs.Theory.LinksKept.{keeps_same}
use Rattle.semantics.proofs.Theory.RelationFacts.{bottom-lives}
use Rattle.soundness.specs.Layout.{Layout}

module _ (layout : Layout) where
  pub sim_read : (P : Trees) (M : Machine) (c : Core) (w x : ℕ) → Passes M (acting w (read x)) → (r : Relates layout P M c)
      → (r' : Relates layout P (after_turn M (acting w (read x))) (read_on layout c w x).core) × Keeps layout r r' × (answer_words (read_on layout c w x).answer ≡ turn_answer M (acting w (read x)))
  unfolding read_on
  sim_read P M c w x h r =
      let a = acts M w (read x) h in
      let value : layout.read c.head.height c.pool (acting_in c w).root x ≡ value_at a.actor x =
      rw (r.numbers.height_is, acting-frame layout r w a.actor a.above a.worker a.at) (r.values a.actor (bottom-lives layout r w a.actor a.above a.at) x a.allowed) in
      rw a.at (r, keeps_same layout r, ap (λ (z : ℕ). (105, z)) value)
