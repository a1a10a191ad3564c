-- Laws: the laws of specs/Theory, under the name by which other crates cite them. Folds: the view of a list of values folded.
pub mod Laws
pub mod Folds
