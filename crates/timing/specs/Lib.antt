-- Turns: what the contracts of this crate cite beside the crate semantics (Timing, Report).
-- Examples: computed.
pub mod Turns
pub mod Examples
