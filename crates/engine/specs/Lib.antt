pub mod Promises
pub mod State
pub mod Run
