-- trees by level; the splitters under a node of a tree
pub mod Shape
-- one node's word changed
pub mod Stamps
-- a visit that succeeds
pub mod Visit
-- a visit of a tree does, where no node is reached on two levels
pub mod Succeeds
-- all live frames' trees
pub mod Places
-- the free chain
pub mod FreeList
-- the answer; the free nodes and the nodes reached
pub mod Correct
-- the links as the code reads them
pub mod Halves
