-- 256 splitters: a write takes nine nodes, one of each level, and the child shares all others with its parent.
use Rattle.std.specs.Prelude.{◌≡◌, refl, [], ◌∷◌, replicate}
use Rattle.sizes.specs.Sizes.{height, width}
use Rattle.model.specs.declared.Step.TheVariants.{Spawn, Read, Write}
use Rattle.model.specs.History.{nodes_in_use}
use Rattle.model.specs.Machine.{start}
use Rattle.model.specs.Steps.{refusal, step, answer}
use Rattle.model.specs.Run.{answers}

wide : answers (start 2 (replicate 256 0) 600 64) (Write 0 3 5 ∷ Spawn 0 ∷ Write 0 255 6 ∷ Read 0 255 ∷ []) ≡ (106, 89) ∷ (101, 1) ∷ (106, 80) ∷ (105, 6) ∷ []
unfolding refusal answer step nodes_in_use height width
wide = refl
