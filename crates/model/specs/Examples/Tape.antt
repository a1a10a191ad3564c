-- Document 01's tape.
use Rattle.std.specs.Prelude.{◌≡◌, refl, List, [], ◌∷◌, ℕ}
use mathlib.Core.List.Memᴰ.{head as here}
use mathlib.Core.List.Memᴰ.{tail as there}
use Rattle.sizes.specs.Sizes.{height, width}
use Rattle.model.specs.declared.Step.{Step}
use Rattle.model.specs.declared.Step.TheVariants.{Spawn, Return, Steal, Sync, Read, Write}
use Rattle.model.specs.History.{nodes_in_use}
use Rattle.model.specs.Machine.{start, free_nodes}
use Rattle.model.specs.Steps.{refusal, step, answer}
use Rattle.model.specs.Run.{run, answers, Returned}
use Rattle.model.specs.Views.{totals_of}
use Rattle.model.specs.Clocks.{pair_of}
use Rattle.model.specs.Demand3.{one_worker_of}

-- "worker 0 spawns; 1 steals from 0; 1 writes 99 to splitter 4; 0 reads 4; 1 syncs; 1 reads 4; 0 returns; 0 reads 4; 0
-- returns"
abbrev pub tape : List Step
tape = Spawn 0 ∷ Steal 1 0 ∷ Write 1 4 99 ∷ Read 0 4 ∷ Sync 1 ∷ Read 1 4 ∷ Return 0 ∷ Read 0 4 ∷ Return 0 ∷ []

abbrev pub values : List ℕ
values = 10 ∷ 20 ∷ 30 ∷ 40 ∷ 50 ∷ []

answered : answers (start 2 values 20 64) tape ≡ (101, 1) ∷ (103, 0) ∷ (106, 5) ∷ (105, 50) ∷ (104, 1) ∷ (10, 0) ∷ (102, 2) ∷ (105, 99) ∷ (102, 3) ∷ []
unfolding refusal answer step nodes_in_use height width
answered = refl

-- "free 20"
freed : free_nodes (run (start 2 values 20 64) tape) ≡ 20
unfolding refusal answer step nodes_in_use height width
freed = refl

-- the one-worker run: the child's steps stand right after its spawn
alone : one_worker_of 2 values 20 64 tape ≡ Spawn 0 ∷ Read 0 4 ∷ Return 0 ∷ Write 0 4 99 ∷ Sync 0 ∷ Read 0 4 ∷ Return 0 ∷ []
unfolding refusal answer step nodes_in_use height width
alone = refl

alone_answered : answers (start 1 values 20 64) (one_worker_of 2 values 20 64 tape) ≡ (101, 1) ∷ (105, 50) ∷ (102, 0) ∷ (106, 9) ∷ (104, 0) ∷ (105, 99) ∷ (102, 3) ∷ []
unfolding refusal answer step nodes_in_use height width
alone_answered = refl

pub returned : Returned (start 2 values 20 64) tape
unfolding refusal answer step nodes_in_use height width
returned = there (there (there (there (there (there (there (there (here refl))))))))

-- R-5: "document 01's example gains `reduced 0 4294967295 1 0`": nothing is folded
none_folded : totals_of 2 values 20 64 tape ≡ []
unfolding refusal answer step nodes_in_use height width
none_folded = refl

-- R-7: its work and span
work_and_span : pair_of 2 values 20 64 tape ≡ (5, 4)
unfolding refusal answer step nodes_in_use height width
work_and_span = refl
