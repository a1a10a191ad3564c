-- Numbers, the sentences, the layouts of a pool, and Soundness have the definitions. proofs/Example computes them on small states, proofs/Theory takes soundness apart.
pub mod Numbers
pub mod Sentence
pub mod Trees
pub mod PackedTrees
pub mod Unpacked
pub mod Layout
pub mod Soundness
