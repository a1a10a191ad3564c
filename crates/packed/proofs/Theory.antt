-- What the definitions of Pool mean. No contract cites anything here.
-- Unpacks: two-word nodes unpack to four-word nodes, and the stores that keep that
pub mod Unpacks
-- Reads: the walk, what is read, and how many nodes a write takes, are as with four words
pub mod Reads
-- Retain: one more outside link
pub mod Retain
-- Ranges: a pool that unpacks to a live one has what Links asks
pub mod Ranges
-- Release: one outside link less
pub mod Release
-- Writes: a write
pub mod Writes
-- Elsewhere: the same nodes in another slice
pub mod Elsewhere
-- Start: the two starts match
pub mod Start
-- Words: every change keeps words words
pub mod Words
-- Halves: links in 16 bits, packed into a word and taken out of it.
pub mod Halves
-- Pack: R-9, what a changed-over pool unpacks to
pub mod Pack
