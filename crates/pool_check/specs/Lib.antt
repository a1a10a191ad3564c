-- Answer is what a reader must believe: the answer of the check, from document 01's soundness. Reading is what the check asks of a layout
-- of nodes, Algorithm what the code runs, and FourWords the layout of document 01. Theory shows that the two agree there.
pub mod Answer
pub mod Reading
pub mod Algorithm
pub mod FourWords
pub mod Theory
