-- Document 01's edges and traps, and every refusal that the machine gives (1 to 7 are given before it is fed).
use Rattle.std.specs.Prelude.{◌≡◌, refl, List, [], ◌∷◌, map, replicate}
use Rattle.sizes.specs.Sizes.{height, width}
use Rattle.model.specs.declared.Step.TheVariants.{Spawn, Return, Steal, Sync, Read, Write, Fold}
use Rattle.model.specs.History.{nodes_in_use}
use Rattle.model.specs.Steps.{refusal, step, answer}
use Rattle.model.specs.Examples.Cases.{Case, answered, expected}

edges : List Case
edges =
    -- "one node with n 1", "106 0" (R-2); "two nodes: accepted, 106 1"
    record { workers = 1; values = 7 ∷ []; nodes = 1; steps = Write 0 0 5 ∷ Read 0 0 ∷ []; expected = (106, 0) ∷ (105, 5) ∷ [] }
    ∷ record { workers = 1; values = 7 ∷ []; nodes = 2; steps = Write 0 0 5 ∷ Read 0 0 ∷ []; expected = (106, 1) ∷ (105, 5) ∷ [] }
    -- "n 5 with 11 nodes now accepts a first write, 106 0", "14 nodes with n 5", "106 3" (R-2); "15: 106 4"
    ∷ record { workers = 1; values = replicate 5 0; nodes = 11; steps = Write 0 0 5 ∷ []; expected = (106, 0) ∷ [] }
    ∷ record { workers = 1; values = replicate 5 0; nodes = 14; steps = Write 0 0 5 ∷ []; expected = (106, 3) ∷ [] }
    ∷ record { workers = 1; values = replicate 5 0; nodes = 15; steps = Write 0 0 5 ∷ []; expected = (106, 4) ∷ [] }
    -- "Stealing from a deque of one: 12"; the victim that does not exist; "Return by Main while its child runs elsewhere" is
    -- 102 4 (R-3), which counts a child on another deque
    ∷ record {
      workers = 2;
      values = replicate 5 0;
      nodes = 15;
      steps = Steal 1 0 ∷ Steal 1 7 ∷ Spawn 0 ∷ Steal 1 0 ∷ Return 1 ∷ [];
      expected = (12, 0) ∷ (12, 0) ∷ (101, 1) ∷ (103, 0) ∷ (102, 4) ∷ [];
    }
    -- a worker that does not exist, an idle one, a thief that is not idle, a splitter that is not there; then Main returns
    ∷ record {
      workers = 2;
      values = 7 ∷ [];
      nodes = 9;
      steps = Sync 2 ∷ Steal 2 0 ∷ Read 1 0 ∷ Steal 0 0 ∷ Read 0 1 ∷ Write 0 1 5 ∷ Return 0 ∷ Read 0 0 ∷ Steal 1 0 ∷ [];
      expected = (8, 0) ∷ (8, 0) ∷ (10, 0) ∷ (11, 0) ∷ (15, 0) ∷ (15, 0) ∷ (102, 3) ∷ (9, 0) ∷ (9, 0) ∷ [];
    }
    -- "a sync with no spawn before it and a spawn directly followed by a sync; both are allowed here"
    ∷ record { workers = 1; values = 7 ∷ []; nodes = 1; steps = Sync 0 ∷ Spawn 0 ∷ Sync 0 ∷ Return 0 ∷ Sync 0 ∷ []; expected = (104, 0) ∷ (101, 1) ∷ (104, 0) ∷ (102, 0) ∷ (104, 0) ∷ [] }
    -- "giving a resumed parent its last child's tree (note B)": the child writes 8 and returns, and the parent reads its own 7
    ∷ record {
      workers = 2;
      values = 7 ∷ [];
      nodes = 4;
      steps = Spawn 0 ∷ Steal 1 0 ∷ Sync 1 ∷ Write 0 0 8 ∷ Read 0 0 ∷ Return 0 ∷ Read 0 0 ∷ Return 0 ∷ [];
      expected = (101, 1) ∷ (103, 0) ∷ (104, 1) ∷ (106, 2) ∷ (105, 8) ∷ (102, 2) ∷ (105, 7) ∷ (102, 3) ∷ [];
    }
    -- "freeing an old path that another frame still holds": the child keeps 7 while its parent writes
    ∷ record {
      workers = 2;
      values = 7 ∷ [];
      nodes = 4;
      steps = Spawn 0 ∷ Steal 1 0 ∷ Write 1 0 8 ∷ Write 1 0 9 ∷ Read 0 0 ∷ Read 1 0 ∷ Return 0 ∷ Write 1 0 10 ∷ [];
      expected = (101, 1) ∷ (103, 0) ∷ (106, 2) ∷ (106, 2) ∷ (105, 7) ∷ (105, 9) ∷ (102, 1) ∷ (106, 3) ∷ [];
    }
    -- "letting a thief take the bottom frame": the thief has Main, of depth 0, and the victim goes on in the child
    ∷ record {
      workers = 2;
      values = 7 ∷ [];
      nodes = 4;
      steps = Spawn 0 ∷ Spawn 0 ∷ Write 0 0 8 ∷ Steal 1 0 ∷ Read 1 0 ∷ Read 0 0 ∷ Return 0 ∷ [];
      expected = (101, 1) ∷ (101, 2) ∷ (106, 2) ∷ (103, 0) ∷ (105, 7) ∷ (105, 8) ∷ (102, 0) ∷ [];
    }
    -- R-3: "the answer shows where that stopped": at a child that lives, at the end of Main, at a parent that waits at its sync
    ∷ record {
      workers = 3;
      values = 7 ∷ [];
      nodes = 4;
      steps = Spawn 0 ∷ Spawn 0 ∷ Steal 1 0 ∷ Steal 2 0 ∷ Return 1 ∷ Steal 1 0 ∷ Spawn 0 ∷ Steal 1 0 ∷ Return 1 ∷ Return 0 ∷ [];
      expected = (101, 1) ∷ (101, 2) ∷ (103, 0) ∷ (103, 1) ∷ (102, 4) ∷ (12, 0) ∷ (101, 3) ∷ (103, 2) ∷ (102, 4) ∷ (102, 1) ∷ [];
    }
    ∷ record {
      workers = 3;
      values = 7 ∷ [];
      nodes = 4;
      steps = Spawn 0 ∷ Spawn 0 ∷ Steal 1 0 ∷ Steal 2 0 ∷ Return 1 ∷ Return 2 ∷ Return 0 ∷ Read 0 0 ∷ [];
      expected = (101, 1) ∷ (101, 2) ∷ (103, 0) ∷ (103, 1) ∷ (102, 4) ∷ (102, 4) ∷ (102, 3) ∷ (9, 0) ∷ [];
    }
    ∷ record {
      workers = 3;
      values = 7 ∷ [];
      nodes = 4;
      steps = Spawn 0 ∷ Spawn 0 ∷ Steal 1 0 ∷ Steal 2 0 ∷ Sync 1 ∷ Return 2 ∷ Return 0 ∷ Return 0 ∷ [];
      expected = (101, 1) ∷ (101, 2) ∷ (103, 0) ∷ (103, 1) ∷ (104, 1) ∷ (102, 4) ∷ (102, 2) ∷ (102, 3) ∷ [];
    }
    -- R-5: "answers 107 0"; "20, kind 7 names no reducer, in the place of 15"
    ∷ record { workers = 1; values = 7 ∷ []; nodes = 1; steps = Fold 0 2 5 ∷ Fold 0 3 5 ∷ Fold 1 3 5 ∷ Return 0 ∷ Fold 0 0 1 ∷ []; expected = (107, 0) ∷ (20, 0) ∷ (8, 0) ∷ (102, 3) ∷ (9, 0) ∷ [] }
    -- "skipping the new path when the written value is equal": a write of the same value takes the nodes that are shared, and
    -- is refused for want of them
    ∷ record { workers = 1; values = 7 ∷ []; nodes = 1; steps = Spawn 0 ∷ Write 0 0 7 ∷ Return 0 ∷ Write 0 0 7 ∷ []; expected = (101, 1) ∷ (16, 0) ∷ (102, 0) ∷ (106, 0) ∷ [] }
    ∷ record { workers = 1; values = 7 ∷ []; nodes = 3; steps = Spawn 0 ∷ Write 0 0 7 ∷ Write 0 0 7 ∷ []; expected = (101, 1) ∷ (106, 1) ∷ (106, 1) ∷ [] }
    ∷ []

edges_hold : map answered edges ≡ map expected edges
unfolding edges refusal answer step nodes_in_use height width
edges_hold = refl
