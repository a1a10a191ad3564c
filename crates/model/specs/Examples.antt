-- the table that the other files fill: a start, steps, and the answers that document 01 asks for
pub mod Cases
-- document 01's tape, its one-worker run, and demand 3 for it
pub mod Tape
-- document 01's edges and traps, and every refusal that the machine gives
pub mod Edges
-- 64 live frames
pub mod Deep
-- 256 splitters
pub mod Wide
-- tapes made at random, with the answers of a program in another language
pub mod Random
-- records, as bytes, to steps
pub mod Records
-- tapes with folds
pub mod Folds
-- work and span
pub mod Clocks
