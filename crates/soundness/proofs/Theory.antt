-- a test and its fact
pub mod Is
-- the rows of a list of sentences
pub mod Each
-- the chains that the check follows
pub mod FreeLists
-- the sentences on numbers, totals, frames and deques as facts
pub mod Facts
-- each test is its fact
pub mod Sentences
-- and the sentences on trees
pub mod PoolSentences
-- the links between siblings: each live child once
pub mod Links
-- the same for nodes of two words
pub mod PackedSentences
-- the nodes of their trees, level by level
pub mod Levels
-- beside a live pool of four-word nodes
pub mod LiveLevels
-- the pool that a two-word pool unpacks to
pub mod Unpacked
-- soundness in one layout is soundness in the other
pub mod PackedSound
