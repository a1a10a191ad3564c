-- "The 63rd nested spawn gives 101 63, the 64th 13; after one return it is accepted."
use Rattle.std.specs.Prelude.{◌≡◌, refl, [], ◌∷◌, replicate}
use Rattle.sizes.specs.Sizes.{height, width}
use Rattle.model.specs.declared.Step.TheVariants.{Spawn, Return}
use Rattle.model.specs.History.{nodes_in_use}
use Rattle.model.specs.Machine.{start}
use Rattle.model.specs.Steps.{refusal, step, answer}
use Rattle.model.specs.Run.{run, answers}

deep : answers (run (start 1 (7 ∷ []) 1 64) (replicate 62 (Spawn 0))) (Spawn 0 ∷ Spawn 0 ∷ Return 0 ∷ Spawn 0 ∷ []) ≡ (101, 63) ∷ (13, 0) ∷ (102, 0) ∷ (101, 63) ∷ []
unfolding refusal answer step nodes_in_use height width
deep = refl
