pub mod Theory
pub mod Stores
pub mod Loops
pub mod Parts
pub mod Ends
pub mod Workers
pub mod Table
