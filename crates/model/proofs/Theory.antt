-- ---- demand 3
-- which names a frame may still bring
pub mod Names
-- the child-first list by recursion on the trace
pub mod ChildFirst
-- nodes in use depend only on which histories there are
pub mod Histories
-- a history that has grown by writes of one frame
pub mod Extends
-- a run as its live frames see it, without deques
pub mod LiveRun
-- the test for a live child
pub mod Children
-- the child-first list keeps each frame's steps
pub mod StepsKept
-- the document's child-first list is the one by recursion
pub mod LiteralList
-- the chain from Main to the frame that acts: no more frames and nodes than in the given run
pub mod Ancestors
-- what an accepted turn does to the live frames
pub mod Effects
-- accepted and refused steps; what is kept along a run
pub mod RunSteps
-- one worker does the child-first list
pub mod OneWorker
-- the live frames are a tree with unique names
pub mod FrameTree
-- Main has returned just when no frame lives
pub mod MainEnds
-- a run is a LiveRun
pub mod RunLive
-- the theorem
pub mod Demand3Proof
-- ---- R-5: the views, and the totals
-- the names that pass a test
pub mod Filter
-- a name that is another one or lies below it
pub mod Under
-- the views' names, and that they are those of the live frames
pub mod ViewNames
-- each after all below it, before its parent
pub mod PostOrder
-- siblings eldest first: the order on names
pub mod ViewOrder
-- the totals are Main's child-first list of folds
pub mod Totals
-- and empty while Main lives
pub mod NoTotals
-- frames that end, one after the other
pub mod JoinViews
-- the children of a frame, eldest first
pub mod Siblings
-- whose view is the next one
pub mod NextView
-- ---- R-7: work and span
-- clocks of frames that end, one after the other
pub mod SettleClocks
-- the clocks' names are those of the views
pub mod ClockNames
-- which clocks wait
pub mod AtSync
-- the clocks after each kind of step
pub mod ClocksAfter
-- no span while Main lives
pub mod NoSpan
-- what is computed over a frame's steps and its children's
pub mod TraceFold
-- a frame's clock at its end
pub mod Foretold
-- the span along a run
pub mod Spans
-- the theorems
pub mod WorkAndSpan
-- ---- invariants of the machine, for those who relate another state to it
-- the shape of a deque
pub mod DequeShape
-- deques keep their shape, and suspended frames have live children
pub mod Deques
-- nodes in use are at most the nodes
pub mod PoolBound
-- a write's mark is new
pub mod FreshMarks
-- at most as many frames as places, a value for each splitter, writes below n
pub mod Bounds
-- all of them together, along a run from a start
pub mod Invariant
-- R-2: a second write takes no node
pub mod SecondWrite
-- R-3: a return's outcome, end by end
pub mod Outcomes
pub mod Unused
