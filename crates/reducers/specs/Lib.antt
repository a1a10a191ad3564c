-- The reducers of document 02's R-5; Law has the law that each keeps, Theory shows it.
pub mod Reducers
pub mod Law
pub mod Theory
pub mod Examples
