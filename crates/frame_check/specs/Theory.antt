-- what the tallies count
pub mod Tallied
-- the free chain
pub mod FreeChain
-- the last place where a frame lives
pub mod Ends
-- the check, taken apart
pub mod Passes
-- the tests on links are the links' sentence
pub mod Links
-- what it finds makes the sentences true
pub mod Finds
-- and they are what it looks for
pub mod Looks
-- the check is soundness
pub mod Theorem
