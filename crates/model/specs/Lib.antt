-- What a reader must believe: definitions, each with the sentence of document 01 that it renders.
pub mod History
pub mod Machine
pub mod Steps
pub mod Run
pub mod Demand3
-- R-5: what the frames have folded.
pub mod Views
-- R-7: work and span.
pub mod Clocks
pub mod Record
-- What is proved about them.
-- Their values on document 01's examples and on others, computed.
pub mod Examples
