-- Widths, Frames, Siblings, Deques and Steps have the definitions, Promises the contracts that are more than one equation, Ranges what the
-- functions ask of the lent words; Theory has the laws.
pub mod Widths
pub mod Frames
pub mod Siblings
pub mod Deques
pub mod Steps
pub mod Promises
pub mod Ranges
