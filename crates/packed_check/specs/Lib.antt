-- TwoWords is how nodes of two words are read; Theory shows that the check of crate pool_check answers soundness by it.
pub mod TwoWords
pub mod Theory
