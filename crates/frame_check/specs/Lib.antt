-- Algorithm is what the code computes, over lists of words. Theory: it is the soundness of frames and deques that the crate
-- soundness defines.
pub mod Algorithm
pub mod Theory
