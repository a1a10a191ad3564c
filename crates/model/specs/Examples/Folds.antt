-- Tapes with folds, made at random: the answers, and once Main has returned what was folded. They were computed by a program in
-- another language (not kept here), which sorts the live frames by their names.
use Rattle.std.specs.Prelude.{◌≡◌, refl, List, [], ◌∷◌, map, ℕ}
use Rattle.sizes.specs.Sizes.{height, width}
use Rattle.model.specs.declared.Step.{Step}
use Rattle.model.specs.declared.Step.TheVariants.{Spawn, Return, Steal, Sync, Read, Write, Fold}
use Rattle.model.specs.History.{nodes_in_use}
use Rattle.model.specs.Machine.{start}
use Rattle.model.specs.Steps.{refusal, step, answer}
use Rattle.model.specs.Run.{answers}
use Rattle.model.specs.Views.{totals_of}

pub record FoldCase : Type 0 where
  pub workers : ℕ
  pub values : List ℕ
  pub nodes : ℕ
  pub steps : List Step
  pub expected : List (ℕ × ℕ)
  pub totals : List (ℕ × ℕ)

unfoldable pub tape1 : FoldCase
tape1 = record {
  workers = 3;
  values = 57 ∷ 71 ∷ 99 ∷ 59 ∷ 57 ∷ [];
  nodes = 30;
  steps =
      Fold 0 1 161 ∷ Read 0 2 ∷ Spawn 0 ∷ Steal 2 0 ∷ Sync 2 ∷ Sync 2 ∷ Sync 2 ∷ Fold 0 2 7 ∷ Sync 2 ∷ Fold 0 0 131 ∷ Sync 1 ∷ Spawn 0 ∷ Fold 0 0 120 ∷ Fold 0 2 69
      ∷ Steal 1 0 ∷ Sync 0 ∷ Fold 0 0 2 ∷ Read 0 3 ∷ Write 0 1 57 ∷ Sync 1 ∷ Sync 0 ∷ Fold 0 2 77 ∷ Fold 0 2 164 ∷ Fold 0 0 197 ∷ Spawn 0 ∷ Fold 0 0 153 ∷ Steal 1 0
      ∷ Fold 0 2 34 ∷ Fold 1 1 58 ∷ Fold 0 2 50 ∷ Fold 1 0 26 ∷ Spawn 0 ∷ Steal 2 0 ∷ Read 2 2 ∷ Fold 2 0 32 ∷ Read 0 4 ∷ Fold 2 1 54 ∷ Spawn 0 ∷ Fold 0 0 15
      ∷ Fold 0 2 146 ∷ Spawn 0 ∷ Fold 1 1 168 ∷ Write 2 4 17 ∷ Spawn 2 ∷ Read 0 2 ∷ Return 0 ∷ Return 0 ∷ Fold 0 2 19 ∷ Return 0 ∷ Return 2 ∷ Return 2 ∷ Return 1
      ∷ Fold 1 2 94 ∷ Return 1 ∷ Return 1 ∷ [];
  expected =
      (107, 0) ∷ (105, 99) ∷ (101, 1) ∷ (103, 0) ∷ (104, 1) ∷ (10, 0) ∷ (10, 0) ∷ (107, 0) ∷ (10, 0) ∷ (107, 0) ∷ (10, 0) ∷ (101, 2) ∷ (107, 0) ∷ (107, 0) ∷ (103, 1)
      ∷ (104, 0) ∷ (107, 0) ∷ (105, 59) ∷ (106, 15) ∷ (104, 1) ∷ (104, 0) ∷ (107, 0) ∷ (107, 0) ∷ (107, 0) ∷ (101, 3) ∷ (107, 0) ∷ (103, 2) ∷ (107, 0) ∷ (107, 0)
      ∷ (107, 0) ∷ (107, 0) ∷ (101, 4) ∷ (103, 3) ∷ (105, 99) ∷ (107, 0) ∷ (105, 57) ∷ (107, 0) ∷ (101, 5) ∷ (107, 0) ∷ (107, 0) ∷ (101, 6) ∷ (107, 0) ∷ (106, 11)
      ∷ (101, 4) ∷ (105, 99) ∷ (102, 0) ∷ (102, 0) ∷ (107, 0) ∷ (102, 1) ∷ (102, 0) ∷ (102, 1) ∷ (102, 2) ∷ (107, 0) ∷ (102, 2) ∷ (102, 3) ∷ [];
  totals =
      (1, 161) ∷ (2, 7) ∷ (0, 131) ∷ (0, 120) ∷ (2, 69) ∷ (0, 2) ∷ (2, 77) ∷ (2, 164) ∷ (0, 197) ∷ (0, 153) ∷ (2, 34) ∷ (2, 50) ∷ (0, 15) ∷ (2, 146) ∷ (2, 19) ∷ (0, 32)
      ∷ (1, 54) ∷ (1, 58) ∷ (0, 26) ∷ (1, 168) ∷ (2, 94) ∷ [];
}

unfoldable pub tape2 : FoldCase
tape2 = record {
  workers = 4;
  values = 99 ∷ 37 ∷ 10 ∷ [];
  nodes = 24;
  steps =
      Fold 0 1 135 ∷ Fold 0 0 27 ∷ Read 0 1 ∷ Write 0 2 93 ∷ Fold 0 2 94 ∷ Spawn 0 ∷ Steal 3 0 ∷ Write 3 0 33 ∷ Read 0 0 ∷ Sync 0 ∷ Spawn 0 ∷ Sync 3 ∷ Fold 0 2 3
      ∷ Steal 1 0 ∷ Sync 2 ∷ Spawn 0 ∷ Steal 2 0 ∷ Spawn 1 ∷ Write 0 2 83 ∷ Write 1 2 30 ∷ Spawn 2 ∷ Steal 3 1 ∷ Return 3 ∷ Steal 3 2 ∷ Fold 0 1 104 ∷ Write 2 2 70
      ∷ Fold 0 2 35 ∷ Write 2 2 55 ∷ Fold 1 3 20 ∷ Write 2 2 69 ∷ Fold 0 1 115 ∷ Spawn 2 ∷ Sync 2 ∷ Fold 0 1 52 ∷ Fold 0 2 108 ∷ Sync 0 ∷ Read 2 2 ∷ Write 1 2 38
      ∷ Spawn 2 ∷ Spawn 1 ∷ Sync 3 ∷ Read 0 2 ∷ Steal 3 2 ∷ Return 3 ∷ Fold 2 3 87 ∷ Sync 1 ∷ Sync 0 ∷ Steal 3 2 ∷ Spawn 2 ∷ Fold 3 0 128 ∷ Spawn 2 ∷ Spawn 3 ∷ Fold 2 0 9
      ∷ Spawn 2 ∷ Fold 1 0 104 ∷ Return 2 ∷ Fold 2 1 144 ∷ Fold 2 0 46 ∷ Return 2 ∷ Return 2 ∷ Return 2 ∷ Fold 3 0 159 ∷ Return 3 ∷ Return 3 ∷ Fold 0 0 190 ∷ Fold 0 0 34
      ∷ Return 0 ∷ Fold 1 2 75 ∷ Return 1 ∷ Return 0 ∷ Return 1 ∷ Return 1 ∷ [];
  expected =
      (107, 0) ∷ (107, 0) ∷ (105, 37) ∷ (106, 18) ∷ (107, 0) ∷ (101, 1) ∷ (103, 0) ∷ (106, 15) ∷ (105, 99) ∷ (104, 0) ∷ (101, 2) ∷ (104, 1) ∷ (107, 0) ∷ (103, 1)
      ∷ (10, 0) ∷ (101, 3) ∷ (103, 2) ∷ (101, 2) ∷ (106, 12) ∷ (106, 9) ∷ (101, 3) ∷ (103, 1) ∷ (102, 4) ∷ (103, 2) ∷ (107, 0) ∷ (106, 6) ∷ (107, 0) ∷ (106, 6) ∷ (20, 0)
      ∷ (106, 6) ∷ (107, 0) ∷ (101, 4) ∷ (104, 0) ∷ (107, 0) ∷ (107, 0) ∷ (104, 0) ∷ (105, 69) ∷ (106, 6) ∷ (101, 5) ∷ (101, 3) ∷ (104, 1) ∷ (105, 83) ∷ (103, 3)
      ∷ (102, 4) ∷ (20, 0) ∷ (104, 0) ∷ (104, 0) ∷ (103, 4) ∷ (101, 6) ∷ (107, 0) ∷ (101, 7) ∷ (101, 5) ∷ (107, 0) ∷ (101, 8) ∷ (107, 0) ∷ (102, 0) ∷ (107, 0) ∷ (107, 0)
      ∷ (102, 0) ∷ (102, 0) ∷ (102, 1) ∷ (107, 0) ∷ (102, 0) ∷ (102, 1) ∷ (107, 0) ∷ (107, 0) ∷ (102, 2) ∷ (107, 0) ∷ (102, 0) ∷ (102, 1) ∷ (102, 2) ∷ (102, 3) ∷ [];
  totals =
      (1, 135) ∷ (0, 27) ∷ (2, 94) ∷ (2, 3) ∷ (1, 104) ∷ (2, 35) ∷ (1, 115) ∷ (1, 52) ∷ (2, 108) ∷ (0, 190) ∷ (0, 34) ∷ (0, 9) ∷ (1, 144) ∷ (0, 46) ∷ (0, 128) ∷ (0, 159)
      ∷ (0, 104) ∷ (2, 75) ∷ [];
}

unfoldable pub tape3 : FoldCase
tape3 = record {
  workers = 2;
  values = 87 ∷ [];
  nodes = 12;
  steps =
      Fold 0 2 162 ∷ Read 0 0 ∷ Spawn 0 ∷ Steal 1 0 ∷ Sync 1 ∷ Write 0 0 64 ∷ Sync 1 ∷ Write 0 0 8 ∷ Spawn 0 ∷ Steal 1 0 ∷ Spawn 0 ∷ Fold 0 2 166 ∷ Fold 1 1 183
      ∷ Read 0 0 ∷ Fold 0 0 112 ∷ Spawn 1 ∷ Fold 0 0 113 ∷ Return 0 ∷ Spawn 1 ∷ Fold 0 0 160 ∷ Write 0 0 60 ∷ Fold 0 1 34 ∷ Spawn 0 ∷ Sync 0 ∷ Return 0 ∷ Spawn 1
      ∷ Fold 0 1 114 ∷ Spawn 1 ∷ Spawn 0 ∷ Spawn 1 ∷ Fold 0 2 179 ∷ Return 1 ∷ Fold 1 2 172 ∷ Fold 0 1 148 ∷ Fold 0 1 56 ∷ Fold 1 0 162 ∷ Spawn 1 ∷ Read 1 0
      ∷ Fold 1 0 167 ∷ Fold 0 0 125 ∷ Fold 1 0 187 ∷ Return 1 ∷ Return 1 ∷ Return 1 ∷ Fold 0 2 44 ∷ Fold 0 1 173 ∷ Return 0 ∷ Fold 1 0 59 ∷ Return 1 ∷ Return 0
      ∷ Fold 1 2 27 ∷ Fold 1 0 25 ∷ Fold 1 0 92 ∷ Return 1 ∷ Return 1 ∷ Fold 1 2 122 ∷ Return 1 ∷ [];
  expected =
      (107, 0) ∷ (105, 87) ∷ (101, 1) ∷ (103, 0) ∷ (104, 1) ∷ (106, 10) ∷ (10, 0) ∷ (106, 10) ∷ (101, 2) ∷ (103, 1) ∷ (101, 3) ∷ (107, 0) ∷ (107, 0) ∷ (105, 8) ∷ (107, 0)
      ∷ (101, 2) ∷ (107, 0) ∷ (102, 0) ∷ (101, 3) ∷ (107, 0) ∷ (106, 9) ∷ (107, 0) ∷ (101, 3) ∷ (104, 0) ∷ (102, 0) ∷ (101, 4) ∷ (107, 0) ∷ (101, 5) ∷ (101, 3) ∷ (101, 6)
      ∷ (107, 0) ∷ (102, 0) ∷ (107, 0) ∷ (107, 0) ∷ (107, 0) ∷ (107, 0) ∷ (101, 6) ∷ (105, 8) ∷ (107, 0) ∷ (107, 0) ∷ (107, 0) ∷ (102, 0) ∷ (102, 0) ∷ (102, 0) ∷ (107, 0)
      ∷ (107, 0) ∷ (102, 0) ∷ (107, 0) ∷ (102, 0) ∷ (102, 1) ∷ (107, 0) ∷ (107, 0) ∷ (107, 0) ∷ (102, 0) ∷ (102, 2) ∷ (107, 0) ∷ (102, 3) ∷ [];
  totals =
      (2, 162) ∷ (2, 166) ∷ (0, 112) ∷ (0, 113) ∷ (0, 160) ∷ (1, 34) ∷ (1, 114) ∷ (2, 179) ∷ (1, 148) ∷ (1, 56) ∷ (0, 125) ∷ (2, 44) ∷ (1, 173) ∷ (1, 183) ∷ (2, 172)
      ∷ (0, 162) ∷ (0, 167) ∷ (0, 187) ∷ (0, 59) ∷ (2, 27) ∷ (0, 25) ∷ (0, 92) ∷ (2, 122) ∷ [];
}

-- many returns that wait, several frames that end at once, and views that pass to a younger sibling's side
unfoldable pub tape4 : FoldCase
tape4 = record {
  workers = 5;
  values = 3 ∷ 1 ∷ 4 ∷ [];
  nodes = 40;
  steps =
      Fold 0 2 45 ∷ Spawn 0 ∷ Steal 2 0 ∷ Fold 0 0 15 ∷ Fold 2 0 7 ∷ Spawn 2 ∷ Steal 4 2 ∷ Sync 0 ∷ Fold 2 2 79 ∷ Spawn 4 ∷ Fold 4 2 47 ∷ Steal 3 4 ∷ Return 3 ∷ Return 0
      ∷ Spawn 4 ∷ Steal 0 4 ∷ Spawn 4 ∷ Steal 1 4 ∷ Fold 4 0 88 ∷ Spawn 1 ∷ Steal 3 1 ∷ Spawn 3 ∷ Sync 4 ∷ Spawn 0 ∷ Sync 2 ∷ Spawn 3 ∷ Spawn 4 ∷ Return 1 ∷ Spawn 0
      ∷ Return 2 ∷ Steal 1 4 ∷ Steal 2 3 ∷ Fold 1 0 51 ∷ Sync 1 ∷ Return 2 ∷ Return 4 ∷ Steal 1 3 ∷ Sync 3 ∷ Return 0 ∷ Steal 2 0 ∷ Fold 1 2 18 ∷ Return 1 ∷ Return 2
      ∷ Return 0 ∷ Return 4 ∷ Return 3 ∷ [];
  expected =
      (107, 0) ∷ (101, 1) ∷ (103, 0) ∷ (107, 0) ∷ (107, 0) ∷ (101, 1) ∷ (103, 0) ∷ (104, 0) ∷ (107, 0) ∷ (101, 1) ∷ (107, 0) ∷ (103, 0) ∷ (102, 4) ∷ (102, 1) ∷ (101, 2)
      ∷ (103, 1) ∷ (101, 3) ∷ (103, 2) ∷ (107, 0) ∷ (101, 3) ∷ (103, 2) ∷ (101, 3) ∷ (104, 0) ∷ (101, 2) ∷ (104, 0) ∷ (101, 4) ∷ (101, 4) ∷ (102, 1) ∷ (101, 3) ∷ (102, 1)
      ∷ (103, 3) ∷ (103, 2) ∷ (107, 0) ∷ (104, 1) ∷ (102, 4) ∷ (102, 2) ∷ (103, 3) ∷ (104, 0) ∷ (102, 0) ∷ (103, 1) ∷ (107, 0) ∷ (102, 4) ∷ (102, 4) ∷ (102, 1) ∷ (102, 1)
      ∷ (102, 3) ∷ [];
  totals =
      (2, 45) ∷ (0, 15) ∷ (0, 7) ∷ (2, 79) ∷ (2, 47) ∷ (0, 88) ∷ (0, 51) ∷ (2, 18) ∷ [];
}

unfoldable pub tapes : List FoldCase
tapes = tape1 ∷ tape2 ∷ tape3 ∷ tape4 ∷ []

tapes_hold : map (λ t. answers (start t.workers t.values t.nodes 64) t.steps) tapes ≡ map (λ t. t.expected) tapes
unfolding tapes tape1 tape2 tape3 tape4 refusal answer step nodes_in_use height width
tapes_hold = refl

totals_hold : map (λ t. totals_of t.workers t.values t.nodes 64 t.steps) tapes ≡ map (λ t. t.totals) tapes
unfolding tapes tape1 tape2 tape3 tape4 refusal answer step nodes_in_use height width
totals_hold = refl
