-- What the definitions of Pool mean. No contract cites anything here.
-- Nodes: what is read after a store
pub mod Nodes
-- Invariant: the invariant of the reference counts, and the stores that keep it
pub mod Invariant
-- FreeCount: the length of the free list
pub mod FreeCount
-- Changes: what nodes in use keep while the pool grows, and while it shrinks
pub mod Changes
-- Retain: one more outside link
pub mod Retain
-- Release: one outside link less
pub mod Release
-- Take: a node leaves the free list
pub mod Take
-- Walk: the node of a level on the way to a splitter
pub mod Walk
-- PathNode: one node of a write's new path
pub mod PathNode
-- CopyPath: the whole new path
pub mod CopyPath
-- Operations: spawn and return on a pool with live roots
pub mod Operations
-- Reached: in use is reached from a live root
pub mod Reached
-- Alone: reached through counts of one is in one place of one frame's tree
pub mod Alone
-- Relink: a link moves from a node with more holders to one that is held outside
pub mod Relink
-- Write: a write on a pool with live roots
pub mod Write
-- LiveLinks: a live pool has what Links asks
pub mod LiveLinks
-- Trees: document 01's soundness of the pool, and the nodes of its trees
pub mod Trees
-- Soundness: soundness of the pool is the invariant
pub mod Soundness
-- Sharing: frames share a node where their last writes are the same
pub mod Sharing
-- InUse: the nodes in use are as many as the model says
pub mod InUse
-- Rest: a write brings as many nodes into use as its path has new ones
pub mod Rest
-- Start: a pool that is filled as the start says is live
pub mod Start
-- Init: init_pool fills it so
pub mod Init
-- Good: the pool of a run from a start, and its operations: what other crates cite
pub mod Good
-- Elsewhere: the same nodes in another slice
pub mod Elsewhere
-- Examples: the definitions computed
pub mod Examples
-- Links: links in range, kept by every change
pub mod Links
-- Words: every change keeps words words
pub mod Words
