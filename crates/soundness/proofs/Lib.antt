pub mod Theory
pub mod Example
