-- Memory has the definitions, Theory their laws, Examples computes them.
pub mod Memory
pub mod Theory
pub mod Examples
