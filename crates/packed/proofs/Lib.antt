pub mod Theory
-- What the proofs of several functions use: Words (the halves of a word, chosen by a bit), Laws (a turn and the end of each loop),
-- Freeing (the calls of a release), Walk (the way down to a leaf), Writing (a turn and the ends of a write).
mod Words
mod Laws
mod Freeing
mod Walk
mod Writing
