-- Sizes has the definitions. The rest is about them: Heights, Widths, Bits (bits of a splitter number and groups),
-- Numbering (the start's node numbers), Leaves (how many splitters a node covers), Examples.
pub mod Sizes
pub mod Heights
pub mod Widths
pub mod Bits
pub mod Numbering
pub mod Leaves
pub mod Examples
