-- a definition by its ways out
pub mod Ways
-- the work slice cleared
pub mod Cleared
-- a node is the root of one tree at most
pub mod Shape
-- one node's word changed
pub mod Stamps
-- a visit that succeeds
pub mod Visit
-- a visit of a tree does
pub mod Succeeds
-- all live frames' trees
pub mod Places
-- what it keeps of the work slice
pub mod Kept
-- the free chain
pub mod FreeList
-- the answer; the free nodes and the nodes reached
pub mod Correct
