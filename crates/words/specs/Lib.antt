-- Basics has the definitions. The rest are laws that several crates cite.
pub mod Basics
pub mod Tests
pub mod Counting
pub mod Lists
pub mod Distinct
pub mod Chains
pub mod NoDup
-- turns of loops over bounded tests, sums and chains
pub mod Loops
-- tests and tallies over the numbers below n
pub mod Tallies
-- lists of words and of bytes
pub mod Below
-- a chain that is followed to its end
pub mod Followed
-- linked lists: one more at the end, one taken out
pub mod Linked
