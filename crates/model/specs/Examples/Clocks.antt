-- R-7: work and span. Each pair was worked out by hand, and by a program in another language (not kept here) that has one clock for each
-- frame and was written from the document alone.
use Rattle.std.specs.Prelude.{◌≡◌, refl, true, false, List, [], ◌∷◌, map, ℕ}
use Rattle.sizes.specs.Sizes.{height, width}
use Rattle.model.specs.declared.Step.{Step}
use Rattle.model.specs.declared.Step.TheVariants.{Spawn, Return, Steal, Sync, Read, Write, Fold}
use Rattle.model.specs.History.{nodes_in_use}
use Rattle.model.specs.Machine.{start}
use Rattle.model.specs.Steps.{refusal, step, answer}
use Rattle.model.specs.Clocks.{clocks_at_start, run_clocks, pair_of}
use Rattle.model.specs.Examples.Folds.{tapes, tape1, tape2, tape3, tape4}

-- one splitter, 9 nodes
record Timed : Type 0 where
  workers : ℕ
  steps : List Step
  pair : ℕ × ℕ

timed : List Timed
timed =
    -- Main returns at once; it has not returned: no span yet; refused steps cost nothing
    record { workers = 1; steps = Return 0 ∷ []; pair = (0, 0) }
    ∷ record { workers = 1; steps = Spawn 0 ∷ []; pair = (1, 0) }
    ∷ record { workers = 1; steps = Read 0 1 ∷ Steal 0 0 ∷ Fold 0 3 1 ∷ Sync 1 ∷ Read 0 0 ∷ Return 0 ∷ Read 0 0 ∷ []; pair = (1, 1) }
    -- a chain: one frame; three frames, each in the one before
    ∷ record { workers = 1; steps = Read 0 0 ∷ Write 0 0 5 ∷ Sync 0 ∷ Fold 0 0 1 ∷ Return 0 ∷ []; pair = (4, 4) }
    ∷ record { workers = 1; steps = Spawn 0 ∷ Spawn 0 ∷ Read 0 0 ∷ Return 0 ∷ Return 0 ∷ Return 0 ∷ []; pair = (3, 3) }
    -- a fan of four children, each of two reads: the last one begins at 4 and ends at 6, and the sync passes to 7
    ∷ record {
      workers = 1;
      steps =
          Spawn 0 ∷ Read 0 0 ∷ Read 0 0 ∷ Return 0 ∷ Spawn 0 ∷ Read 0 0 ∷ Read 0 0 ∷ Return 0 ∷ Spawn 0 ∷ Read 0 0 ∷ Read 0 0 ∷ Return 0 ∷ Spawn 0 ∷ Read 0 0 ∷ Read 0 0 ∷ Return 0
          ∷ Sync 0 ∷ Return 0 ∷ [];
      pair = (13, 7);
    }
    -- "Two runs with the same frames' steps give the same pair": the same fan, with steals, and a sync that waits
    ∷ record {
      workers = 2;
      steps =
          Spawn 0 ∷ Steal 1 0 ∷ Spawn 1 ∷ Read 0 0 ∷ Read 1 0 ∷ Read 0 0 ∷ Return 0 ∷ Steal 0 1 ∷ Spawn 0 ∷ Read 0 0 ∷ Read 0 0 ∷ Return 0 ∷ Spawn 0 ∷ Read 1 0 ∷ Return 1
          ∷ Steal 1 0 ∷ Sync 1 ∷ Read 0 0 ∷ Read 0 0 ∷ Return 0 ∷ Return 0 ∷ [];
      pair = (13, 7);
    }
    -- parent and child side by side: Main ends at 4, its child at 2
    ∷ record { workers = 2; steps = Spawn 0 ∷ Steal 1 0 ∷ Read 1 0 ∷ Read 1 0 ∷ Read 1 0 ∷ Read 0 0 ∷ Return 0 ∷ Return 1 ∷ []; pair = (5, 4) }
    -- "counted when it passes": the sync waits from 1 on, the child ends at 3, and Main goes on at 4
    ∷ record { workers = 2; steps = Spawn 0 ∷ Steal 1 0 ∷ Sync 1 ∷ Read 0 0 ∷ Read 0 0 ∷ Return 0 ∷ Read 0 0 ∷ Return 0 ∷ []; pair = (5, 5) }
    -- "the latest of its own and its ended children's": not the last that ended but the elder one, at 4
    ∷ record { workers = 2; steps = Spawn 0 ∷ Steal 1 0 ∷ Read 0 0 ∷ Read 0 0 ∷ Read 0 0 ∷ Return 0 ∷ Spawn 1 ∷ Steal 0 1 ∷ Sync 0 ∷ Read 1 0 ∷ Return 1 ∷ Return 1 ∷ []; pair = (7, 5) }
    -- a second sync: its own is the latest
    ∷ record { workers = 1; steps = Spawn 0 ∷ Read 0 0 ∷ Read 0 0 ∷ Return 0 ∷ Sync 0 ∷ Spawn 0 ∷ Return 0 ∷ Sync 0 ∷ Return 0 ∷ []; pair = (6, 6) }
    -- "a return likewise waits but adds nothing"; and so upward: the grandchild ends at 4, then its parent and Main
    ∷ record { workers = 2; steps = Spawn 0 ∷ Steal 1 0 ∷ Return 1 ∷ Read 0 0 ∷ Read 0 0 ∷ Return 0 ∷ []; pair = (3, 3) }
    ∷ record { workers = 3; steps = Spawn 0 ∷ Steal 1 0 ∷ Spawn 0 ∷ Steal 2 0 ∷ Return 2 ∷ Return 1 ∷ Read 0 0 ∷ Read 0 0 ∷ Return 0 ∷ []; pair = (4, 4) }
    ∷ []

timed_hold : map (λ t. pair_of t.workers (7 ∷ []) 9 64 t.steps) timed ≡ map (λ t. t.pair) timed
unfolding timed refusal answer step nodes_in_use height width
timed_hold = refl

-- while the sync waits its frame's clock stands, and it is counted in the work
waiting-sync : run_clocks (start 2 (7 ∷ []) 9 64) clocks_at_start (Spawn 0 ∷ Steal 1 0 ∷ Sync 1 ∷ Read 0 0 ∷ []) ≡ record {
  clocks = record { name = 1 ∷ []; clock = 2; latest = 0; waits = false } ∷ record { name = []; clock = 1; latest = 0; waits = true } ∷ [];
  work = 3;
  span = 0;
}
unfolding refusal answer step nodes_in_use height width
waiting-sync = refl

-- and when it has passed
passed-sync : run_clocks (start 2 (7 ∷ []) 9 64) clocks_at_start (Spawn 0 ∷ Steal 1 0 ∷ Sync 1 ∷ Read 0 0 ∷ Return 0 ∷ []) ≡ record {
  clocks = record { name = []; clock = 3; latest = 2; waits = false } ∷ [];
  work = 3;
  span = 0;
}
unfolding refusal answer step nodes_in_use height width
passed-sync = refl

-- the tapes made at random
tapes_timed : map (λ t. pair_of t.workers t.values t.nodes 64 t.steps) tapes ≡ (39, 30) ∷ (49, 27) ∷ (42, 21) ∷ (24, 13) ∷ []
unfolding tapes tape1 tape2 tape3 tape4 refusal answer step nodes_in_use height width
tapes_timed = refl
