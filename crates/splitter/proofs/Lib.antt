pub mod Ways
pub mod Chains
