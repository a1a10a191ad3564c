pub mod Theory
pub mod Loops
pub mod Ways
pub mod Starting
