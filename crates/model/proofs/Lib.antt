pub mod Theory
pub mod Demanded
