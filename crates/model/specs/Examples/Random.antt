-- Tapes made at random. The answers were computed by a program in another language (not kept here) that builds the trees and counts
-- their holders.
use Rattle.std.specs.Prelude.{◌≡◌, refl, List, [], ◌∷◌, map}
use Rattle.sizes.specs.Sizes.{height, width}
use Rattle.model.specs.declared.Step.TheVariants.{Spawn, Return, Steal, Sync, Read, Write}
use Rattle.model.specs.History.{nodes_in_use}
use Rattle.model.specs.Steps.{refusal, step, answer}
use Rattle.model.specs.Examples.Cases.{Case, answered, expected, free_at_end, nodes}

tape1 : Case
tape1 = record {
  workers = 5;
  values = 57 ∷ 71 ∷ 99 ∷ 59 ∷ 57 ∷ [];
  nodes = 41;
  steps =
      Write 0 5 628 ∷ Write 0 4 92 ∷ Write 0 3 669 ∷ Write 0 0 36 ∷ Steal 4 0 ∷ Steal 1 0 ∷ Write 0 1 525 ∷ Steal 1 0 ∷ Spawn 0 ∷ Steal 4 0 ∷ Write 4 2 15 ∷ Read 0 0 ∷ Read 0 3
      ∷ Steal 2 0 ∷ Spawn 2 ∷ Write 2 0 215 ∷ Return 3 ∷ Write 0 1 452 ∷ Steal 2 0 ∷ Spawn 0 ∷ Write 4 1 982 ∷ Write 0 3 187 ∷ Write 0 4 255 ∷ Steal 3 0 ∷ Read 0 0 ∷ Spawn 4
      ∷ Read 4 3 ∷ Write 1 0 129 ∷ Steal 1 4 ∷ Spawn 4 ∷ Spawn 3 ∷ Write 1 3 338 ∷ Write 1 4 35 ∷ Spawn 3 ∷ Steal 2 4 ∷ Return 4 ∷ Spawn 2 ∷ Spawn 3 ∷ Read 0 4 ∷ Write 0 4 73
      ∷ Spawn 2 ∷ Read 3 3 ∷ Write 0 2 615 ∷ Spawn 0 ∷ Write 0 2 308 ∷ Write 1 2 771 ∷ Write 1 2 414 ∷ Write 3 1 901 ∷ Steal 4 0 ∷ Sync 2 ∷ Return 2 ∷ Steal 3 3 ∷ Spawn 4
      ∷ Write 2 5 810 ∷ Write 3 3 194 ∷ Spawn 1 ∷ Return 4 ∷ Sync 1 ∷ Write 0 3 547 ∷ Return 2 ∷ Return 1 ∷ Read 3 1 ∷ Return 4 ∷ Sync 1 ∷ Return 4 ∷ Steal 4 2 ∷ Return 0
      ∷ Sync 3 ∷ Return 2 ∷ Return 3 ∷ Return 4 ∷ Write 3 1 449 ∷ Steal 2 3 ∷ Return 2 ∷ Steal 1 3 ∷ Read 1 4 ∷ Read 3 0 ∷ Return 3 ∷ Read 2 3 ∷ Sync 3 ∷ Sync 2 ∷ Return 1
      ∷ Return 1 ∷ Return 1 ∷ [];
  expected =
      (15, 0) ∷ (106, 30) ∷ (106, 30) ∷ (106, 30) ∷ (12, 0) ∷ (12, 0) ∷ (106, 30) ∷ (12, 0) ∷ (101, 1) ∷ (103, 0) ∷ (106, 26) ∷ (105, 36) ∷ (105, 669) ∷ (12, 0) ∷ (10, 0)
      ∷ (10, 0) ∷ (10, 0) ∷ (106, 24) ∷ (12, 0) ∷ (101, 2) ∷ (106, 24) ∷ (106, 20) ∷ (106, 17) ∷ (103, 1) ∷ (105, 36) ∷ (101, 1) ∷ (105, 669) ∷ (10, 0) ∷ (103, 0)
      ∷ (101, 2) ∷ (101, 2) ∷ (106, 13) ∷ (106, 10) ∷ (101, 3) ∷ (103, 1) ∷ (102, 1) ∷ (101, 2) ∷ (101, 4) ∷ (105, 255) ∷ (106, 10) ∷ (101, 3) ∷ (105, 669) ∷ (106, 9)
      ∷ (101, 3) ∷ (106, 5) ∷ (106, 4) ∷ (106, 4) ∷ (106, 0) ∷ (103, 2) ∷ (104, 0) ∷ (102, 0) ∷ (11, 0) ∷ (101, 3) ∷ (15, 0) ∷ (16, 0) ∷ (101, 1) ∷ (102, 0) ∷ (104, 0)
      ∷ (16, 0) ∷ (102, 0) ∷ (102, 0) ∷ (105, 901) ∷ (102, 4) ∷ (104, 1) ∷ (10, 0) ∷ (12, 0) ∷ (102, 1) ∷ (104, 0) ∷ (102, 1) ∷ (102, 0) ∷ (10, 0) ∷ (106, 16) ∷ (103, 1)
      ∷ (102, 4) ∷ (103, 2) ∷ (105, 92) ∷ (105, 36) ∷ (102, 1) ∷ (10, 0) ∷ (10, 0) ∷ (10, 0) ∷ (102, 2) ∷ (102, 3) ∷ (9, 0) ∷ [];
}

tape2 : Case
tape2 = record {
  workers = 3;
  values = 33 ∷ 37 ∷ 87 ∷ 87 ∷ 23 ∷ 83 ∷ 29 ∷ [];
  nodes = 43;
  steps =
      Write 0 2 133 ∷ Spawn 0 ∷ Read 0 4 ∷ Return 0 ∷ Steal 1 0 ∷ Steal 1 0 ∷ Sync 0 ∷ Write 2 7 567 ∷ Write 2 7 693 ∷ Read 0 2 ∷ Sync 0 ∷ Steal 1 0 ∷ Steal 1 0 ∷ Spawn 0
      ∷ Return 0 ∷ Steal 2 1 ∷ Write 0 3 740 ∷ Read 0 0 ∷ Write 0 2 302 ∷ Steal 1 0 ∷ Read 0 7 ∷ Sync 0 ∷ Steal 2 0 ∷ Read 0 0 ∷ Sync 0 ∷ Write 0 6 513 ∷ Write 0 6 700
      ∷ Steal 1 0 ∷ Steal 2 0 ∷ Read 0 0 ∷ Steal 2 0 ∷ Read 0 1 ∷ Write 0 0 297 ∷ Sync 0 ∷ Write 2 0 359 ∷ Write 0 5 170 ∷ Write 0 3 934 ∷ Write 0 1 353 ∷ Steal 1 0 ∷ Read 0 0
      ∷ Write 0 5 546 ∷ Read 0 4 ∷ Sync 0 ∷ Spawn 0 ∷ Spawn 0 ∷ Write 0 0 112 ∷ Spawn 0 ∷ Read 0 7 ∷ Spawn 0 ∷ Sync 0 ∷ Sync 0 ∷ Steal 2 0 ∷ Read 0 7 ∷ Write 0 2 314 ∷ Spawn 0
      ∷ Write 0 2 305 ∷ Write 2 6 948 ∷ Steal 1 0 ∷ Write 2 0 537 ∷ Read 0 0 ∷ Sync 0 ∷ Sync 2 ∷ Steal 2 0 ∷ Return 0 ∷ Return 1 ∷ Write 0 7 539 ∷ Steal 1 2 ∷ Read 1 6
      ∷ Return 1 ∷ Return 0 ∷ Sync 2 ∷ Read 0 1 ∷ Return 0 ∷ Read 0 0 ∷ Return 1 ∷ Return 1 ∷ Return 1 ∷ Return 0 ∷ Return 1 ∷ Read 1 6 ∷ Return 1 ∷ Return 0 ∷ [];
  expected =
      (106, 29) ∷ (101, 1) ∷ (105, 23) ∷ (102, 0) ∷ (12, 0) ∷ (12, 0) ∷ (104, 0) ∷ (10, 0) ∷ (10, 0) ∷ (105, 133) ∷ (104, 0) ∷ (12, 0) ∷ (12, 0) ∷ (101, 1) ∷ (102, 0)
      ∷ (12, 0) ∷ (106, 29) ∷ (105, 33) ∷ (106, 29) ∷ (12, 0) ∷ (15, 0) ∷ (104, 0) ∷ (12, 0) ∷ (105, 33) ∷ (104, 0) ∷ (106, 29) ∷ (106, 29) ∷ (12, 0) ∷ (12, 0)
      ∷ (105, 33) ∷ (12, 0) ∷ (105, 37) ∷ (106, 29) ∷ (104, 0) ∷ (10, 0) ∷ (106, 29) ∷ (106, 29) ∷ (106, 29) ∷ (12, 0) ∷ (105, 297) ∷ (106, 29) ∷ (105, 23) ∷ (104, 0)
      ∷ (101, 1) ∷ (101, 2) ∷ (106, 25) ∷ (101, 3) ∷ (15, 0) ∷ (101, 4) ∷ (104, 0) ∷ (104, 0) ∷ (103, 0) ∷ (15, 0) ∷ (106, 21) ∷ (101, 5) ∷ (106, 17) ∷ (106, 13)
      ∷ (103, 1) ∷ (106, 10) ∷ (105, 112) ∷ (104, 0) ∷ (104, 1) ∷ (103, 2) ∷ (102, 0) ∷ (102, 4) ∷ (15, 0) ∷ (12, 0) ∷ (10, 0) ∷ (10, 0) ∷ (102, 0) ∷ (104, 1)
      ∷ (105, 353) ∷ (102, 2) ∷ (105, 112) ∷ (10, 0) ∷ (10, 0) ∷ (10, 0) ∷ (102, 2) ∷ (10, 0) ∷ (10, 0) ∷ (10, 0) ∷ (102, 3) ∷ [];
}

tape3 : Case
tape3 = record {
  workers = 4;
  values = 13 ∷ [];
  nodes = 44;
  steps =
      Write 0 1 751 ∷ Spawn 0 ∷ Spawn 0 ∷ Steal 3 0 ∷ Write 0 0 609 ∷ Sync 0 ∷ Read 3 0 ∷ Write 3 0 885 ∷ Spawn 0 ∷ Read 3 1 ∷ Spawn 0 ∷ Return 0 ∷ Read 3 1 ∷ Read 0 1
      ∷ Read 3 0 ∷ Write 3 0 19 ∷ Read 3 1 ∷ Sync 0 ∷ Write 0 1 100 ∷ Spawn 0 ∷ Write 3 1 116 ∷ Spawn 0 ∷ Steal 1 0 ∷ Sync 3 ∷ Return 1 ∷ Read 0 0 ∷ Read 0 1 ∷ Spawn 0
      ∷ Steal 3 0 ∷ Sync 1 ∷ Spawn 0 ∷ Spawn 1 ∷ Write 2 0 591 ∷ Read 3 1 ∷ Spawn 0 ∷ Spawn 0 ∷ Spawn 3 ∷ Return 3 ∷ Spawn 3 ∷ Write 3 0 288 ∷ Write 0 0 950 ∷ Sync 0 ∷ Read 3 0
      ∷ Return 2 ∷ Steal 2 0 ∷ Sync 2 ∷ Write 3 0 385 ∷ Read 0 0 ∷ Steal 1 0 ∷ Write 3 1 793 ∷ Read 3 0 ∷ Spawn 1 ∷ Steal 2 3 ∷ Sync 2 ∷ Return 1 ∷ Steal 2 0 ∷ Steal 2 0
      ∷ Return 1 ∷ Steal 3 0 ∷ Sync 3 ∷ Return 2 ∷ Steal 1 0 ∷ Read 0 1 ∷ Return 3 ∷ Return 2 ∷ Read 0 1 ∷ Write 2 0 892 ∷ Return 1 ∷ Return 1 ∷ Return 2 ∷ Steal 3 0
      ∷ Write 0 1 207 ∷ Return 1 ∷ Steal 3 0 ∷ Return 3 ∷ Return 0 ∷ Return 1 ∷ Steal 0 0 ∷ Steal 1 0 ∷ Return 3 ∷ Sync 2 ∷ Sync 3 ∷ Return 0 ∷ Return 0 ∷ Return 0 ∷ Return 0
      ∷ Return 1 ∷ Return 1 ∷ Return 1 ∷ Return 1 ∷ Return 1 ∷ [];
  expected =
      (15, 0) ∷ (101, 1) ∷ (101, 2) ∷ (103, 0) ∷ (106, 42) ∷ (104, 0) ∷ (105, 13) ∷ (106, 41) ∷ (101, 3) ∷ (15, 0) ∷ (101, 4) ∷ (102, 0) ∷ (15, 0) ∷ (15, 0) ∷ (105, 885)
      ∷ (106, 41) ∷ (15, 0) ∷ (104, 0) ∷ (15, 0) ∷ (101, 4) ∷ (15, 0) ∷ (101, 5) ∷ (103, 1) ∷ (104, 1) ∷ (102, 4) ∷ (105, 609) ∷ (15, 0) ∷ (101, 6) ∷ (103, 2) ∷ (10, 0)
      ∷ (101, 7) ∷ (10, 0) ∷ (10, 0) ∷ (15, 0) ∷ (101, 8) ∷ (101, 9) ∷ (101, 3) ∷ (102, 0) ∷ (101, 3) ∷ (106, 40) ∷ (106, 39) ∷ (104, 0) ∷ (105, 288) ∷ (10, 0) ∷ (103, 3)
      ∷ (104, 1) ∷ (106, 39) ∷ (105, 950) ∷ (103, 4) ∷ (15, 0) ∷ (105, 385) ∷ (101, 5) ∷ (103, 2) ∷ (104, 1) ∷ (102, 0) ∷ (103, 5) ∷ (11, 0) ∷ (102, 4) ∷ (11, 0)
      ∷ (104, 0) ∷ (102, 4) ∷ (103, 6) ∷ (15, 0) ∷ (102, 1) ∷ (10, 0) ∷ (15, 0) ∷ (10, 0) ∷ (102, 4) ∷ (10, 0) ∷ (10, 0) ∷ (103, 7) ∷ (15, 0) ∷ (10, 0) ∷ (11, 0)
      ∷ (102, 4) ∷ (102, 0) ∷ (10, 0) ∷ (11, 0) ∷ (12, 0) ∷ (10, 0) ∷ (10, 0) ∷ (10, 0) ∷ (102, 2) ∷ (102, 2) ∷ (102, 2) ∷ (102, 3) ∷ (9, 0) ∷ (9, 0) ∷ (9, 0) ∷ (9, 0)
      ∷ (9, 0) ∷ [];
}

tape4 : Case
tape4 = record {
  workers = 4;
  values = 23 ∷ 15 ∷ 84 ∷ 57 ∷ 42 ∷ [];
  nodes = 48;
  steps =
      Steal 1 0 ∷ Steal 3 0 ∷ Write 1 1 173 ∷ Steal 3 0 ∷ Steal 2 0 ∷ Sync 0 ∷ Spawn 0 ∷ Write 0 1 416 ∷ Write 0 4 265 ∷ Write 0 0 503 ∷ Return 0 ∷ Write 0 5 402
      ∷ Write 0 1 791 ∷ Spawn 0 ∷ Read 0 5 ∷ Sync 0 ∷ Return 3 ∷ Spawn 0 ∷ Write 0 4 103 ∷ Spawn 0 ∷ Write 3 1 230 ∷ Return 1 ∷ Write 0 2 776 ∷ Write 1 4 154 ∷ Steal 2 0
      ∷ Steal 1 0 ∷ Steal 3 0 ∷ Write 3 5 46 ∷ Write 0 1 290 ∷ Return 3 ∷ Spawn 2 ∷ Write 0 1 726 ∷ Spawn 3 ∷ Sync 0 ∷ Sync 3 ∷ Read 0 4 ∷ Steal 1 3 ∷ Spawn 1 ∷ Return 1
      ∷ Read 3 5 ∷ Write 1 3 627 ∷ Steal 2 3 ∷ Steal 0 3 ∷ Steal 1 2 ∷ Spawn 1 ∷ Read 3 2 ∷ Steal 3 3 ∷ Write 2 2 219 ∷ Spawn 1 ∷ Spawn 2 ∷ Steal 3 1 ∷ Sync 1 ∷ Steal 1 2
      ∷ Write 0 1 574 ∷ Sync 1 ∷ Steal 2 2 ∷ Steal 2 2 ∷ Read 0 2 ∷ Return 1 ∷ Steal 1 2 ∷ Sync 2 ∷ Steal 1 3 ∷ Read 0 5 ∷ Return 0 ∷ Sync 3 ∷ Read 3 1 ∷ Return 3 ∷ Read 2 2
      ∷ Sync 3 ∷ Return 2 ∷ Return 2 ∷ Write 2 2 849 ∷ Write 2 3 227 ∷ Read 2 2 ∷ Sync 1 ∷ Return 3 ∷ Return 1 ∷ Return 1 ∷ Read 2 5 ∷ Read 3 4 ∷ Return 2 ∷ [];
  expected =
      (12, 0) ∷ (12, 0) ∷ (10, 0) ∷ (12, 0) ∷ (12, 0) ∷ (104, 0) ∷ (101, 1) ∷ (106, 33) ∷ (106, 30) ∷ (106, 29) ∷ (102, 0) ∷ (15, 0) ∷ (106, 37) ∷ (101, 1) ∷ (15, 0)
      ∷ (104, 0) ∷ (10, 0) ∷ (101, 2) ∷ (106, 33) ∷ (101, 3) ∷ (10, 0) ∷ (10, 0) ∷ (106, 29) ∷ (10, 0) ∷ (103, 0) ∷ (103, 1) ∷ (103, 2) ∷ (15, 0) ∷ (106, 27) ∷ (102, 4)
      ∷ (101, 1) ∷ (106, 27) ∷ (10, 0) ∷ (104, 0) ∷ (10, 0) ∷ (105, 103) ∷ (11, 0) ∷ (101, 2) ∷ (102, 0) ∷ (10, 0) ∷ (106, 23) ∷ (11, 0) ∷ (11, 0) ∷ (11, 0) ∷ (101, 2)
      ∷ (10, 0) ∷ (12, 0) ∷ (106, 19) ∷ (101, 3) ∷ (101, 2) ∷ (103, 1) ∷ (104, 0) ∷ (11, 0) ∷ (106, 19) ∷ (104, 0) ∷ (11, 0) ∷ (11, 0) ∷ (105, 776) ∷ (102, 0) ∷ (11, 0)
      ∷ (104, 0) ∷ (11, 0) ∷ (15, 0) ∷ (102, 1) ∷ (104, 1) ∷ (10, 0) ∷ (10, 0) ∷ (105, 219) ∷ (10, 0) ∷ (102, 0) ∷ (102, 0) ∷ (106, 32) ∷ (106, 32) ∷ (105, 849)
      ∷ (104, 0) ∷ (10, 0) ∷ (102, 2) ∷ (102, 1) ∷ (15, 0) ∷ (10, 0) ∷ (102, 3) ∷ [];
}

tape5 : Case
tape5 = record {
  workers = 3;
  values = 17 ∷ 72 ∷ 97 ∷ [];
  nodes = 14;
  steps =
      Steal 0 1 ∷ Read 1 0 ∷ Read 0 1 ∷ Read 1 2 ∷ Steal 1 0 ∷ Write 2 1 31 ∷ Spawn 0 ∷ Spawn 2 ∷ Write 1 1 743 ∷ Read 0 1 ∷ Return 2 ∷ Write 0 1 975 ∷ Write 1 1 857
      ∷ Write 2 0 190 ∷ Write 2 1 123 ∷ Steal 2 2 ∷ Read 2 2 ∷ Return 2 ∷ Read 1 2 ∷ Read 1 1 ∷ Write 2 1 680 ∷ Steal 0 2 ∷ Write 2 0 449 ∷ Read 2 2 ∷ Steal 1 2 ∷ Sync 0
      ∷ Write 1 2 607 ∷ Steal 2 0 ∷ Read 0 0 ∷ Write 2 2 237 ∷ Read 1 2 ∷ Sync 1 ∷ Write 1 2 980 ∷ Spawn 2 ∷ Read 2 1 ∷ Write 1 1 890 ∷ Read 1 3 ∷ Write 1 1 354 ∷ Read 0 2
      ∷ Sync 1 ∷ Write 0 2 181 ∷ Read 2 2 ∷ Spawn 1 ∷ Spawn 2 ∷ Sync 0 ∷ Steal 1 0 ∷ Return 2 ∷ Spawn 1 ∷ Steal 0 0 ∷ Steal 2 2 ∷ Sync 1 ∷ Read 1 2 ∷ Steal 1 0 ∷ Spawn 1
      ∷ Read 2 2 ∷ Write 1 0 230 ∷ Steal 0 0 ∷ Write 2 1 721 ∷ Write 2 2 852 ∷ Write 0 2 816 ∷ Read 2 2 ∷ Return 2 ∷ Return 0 ∷ Return 2 ∷ [];
  expected =
      (11, 0) ∷ (10, 0) ∷ (105, 72) ∷ (10, 0) ∷ (12, 0) ∷ (10, 0) ∷ (101, 1) ∷ (10, 0) ∷ (10, 0) ∷ (105, 72) ∷ (10, 0) ∷ (106, 5) ∷ (10, 0) ∷ (10, 0) ∷ (10, 0) ∷ (12, 0)
      ∷ (10, 0) ∷ (10, 0) ∷ (10, 0) ∷ (10, 0) ∷ (10, 0) ∷ (11, 0) ∷ (10, 0) ∷ (10, 0) ∷ (12, 0) ∷ (104, 0) ∷ (10, 0) ∷ (103, 0) ∷ (105, 17) ∷ (106, 3) ∷ (10, 0) ∷ (10, 0)
      ∷ (10, 0) ∷ (101, 1) ∷ (105, 72) ∷ (10, 0) ∷ (10, 0) ∷ (10, 0) ∷ (105, 97) ∷ (10, 0) ∷ (106, 3) ∷ (105, 237) ∷ (10, 0) ∷ (101, 2) ∷ (104, 0) ∷ (12, 0) ∷ (102, 0)
      ∷ (10, 0) ∷ (11, 0) ∷ (11, 0) ∷ (10, 0) ∷ (10, 0) ∷ (12, 0) ∷ (10, 0) ∷ (105, 237) ∷ (10, 0) ∷ (11, 0) ∷ (106, 0) ∷ (16, 0) ∷ (106, 0) ∷ (105, 237) ∷ (102, 0)
      ∷ (102, 1) ∷ (102, 3) ∷ [];
}

tape6 : Case
tape6 = record {
  workers = 4;
  values = 7 ∷ 11 ∷ 10 ∷ 46 ∷ 21 ∷ [];
  nodes = 22;
  steps =
      Steal 2 1 ∷ Read 0 3 ∷ Write 3 4 972 ∷ Read 2 2 ∷ Write 0 2 476 ∷ Write 2 3 913 ∷ Read 1 0 ∷ Steal 1 1 ∷ Write 2 4 186 ∷ Write 3 4 928 ∷ Write 2 2 370 ∷ Spawn 3
      ∷ Write 3 3 670 ∷ Read 1 4 ∷ Write 2 3 921 ∷ Steal 3 3 ∷ Write 3 2 834 ∷ Write 1 4 274 ∷ Steal 3 3 ∷ Write 2 3 524 ∷ Write 2 4 903 ∷ Write 0 2 743 ∷ Write 0 1 762
      ∷ Spawn 0 ∷ Steal 0 1 ∷ Write 0 1 874 ∷ Steal 2 1 ∷ Sync 0 ∷ Spawn 0 ∷ Spawn 2 ∷ Spawn 0 ∷ Spawn 0 ∷ Steal 0 1 ∷ Write 1 4 708 ∷ Steal 0 0 ∷ Spawn 1 ∷ Spawn 0 ∷ Steal 0 3
      ∷ Steal 0 0 ∷ Write 2 4 722 ∷ Read 1 2 ∷ Spawn 0 ∷ Read 1 3 ∷ Spawn 2 ∷ Steal 2 3 ∷ Write 0 1 686 ∷ Steal 0 1 ∷ Spawn 1 ∷ Read 3 0 ∷ Return 1 ∷ Spawn 3 ∷ Read 0 4
      ∷ Steal 2 3 ∷ Read 2 0 ∷ Steal 3 0 ∷ Steal 0 0 ∷ Return 0 ∷ Spawn 1 ∷ Read 0 2 ∷ Return 3 ∷ Return 0 ∷ Return 0 ∷ Return 0 ∷ Return 0 ∷ Return 0 ∷ Return 3 ∷ [];
  expected =
      (12, 0) ∷ (105, 46) ∷ (10, 0) ∷ (10, 0) ∷ (106, 11) ∷ (10, 0) ∷ (10, 0) ∷ (12, 0) ∷ (10, 0) ∷ (10, 0) ∷ (10, 0) ∷ (10, 0) ∷ (10, 0) ∷ (10, 0) ∷ (10, 0) ∷ (12, 0)
      ∷ (10, 0) ∷ (10, 0) ∷ (12, 0) ∷ (10, 0) ∷ (10, 0) ∷ (106, 11) ∷ (106, 11) ∷ (101, 1) ∷ (11, 0) ∷ (106, 7) ∷ (12, 0) ∷ (104, 0) ∷ (101, 2) ∷ (10, 0) ∷ (101, 3)
      ∷ (101, 4) ∷ (11, 0) ∷ (10, 0) ∷ (11, 0) ∷ (10, 0) ∷ (101, 5) ∷ (11, 0) ∷ (11, 0) ∷ (10, 0) ∷ (10, 0) ∷ (101, 6) ∷ (10, 0) ∷ (10, 0) ∷ (12, 0) ∷ (106, 3) ∷ (11, 0)
      ∷ (10, 0) ∷ (10, 0) ∷ (10, 0) ∷ (10, 0) ∷ (105, 21) ∷ (12, 0) ∷ (10, 0) ∷ (103, 0) ∷ (11, 0) ∷ (102, 0) ∷ (10, 0) ∷ (105, 743) ∷ (102, 4) ∷ (102, 0) ∷ (102, 0)
      ∷ (102, 0) ∷ (102, 0) ∷ (102, 3) ∷ (9, 0) ∷ [];
}

tapes : List Case
tapes = tape1 ∷ tape2 ∷ tape3 ∷ tape4 ∷ tape5 ∷ tape6 ∷ []

tapes_hold : map answered tapes ≡ map expected tapes
unfolding tapes tape1 tape2 tape3 tape4 tape5 tape6 refusal answer step nodes_in_use height width
tapes_hold = refl

-- Main has returned in each
all_free : map free_at_end tapes ≡ map nodes tapes
unfolding tapes tape1 tape2 tape3 tape4 tape5 tape6 refusal answer step nodes_in_use height width
all_free = refl
