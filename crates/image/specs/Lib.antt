-- Widths and Image are what a reader must believe; Inner has what the contracts of inner functions are said in. Theory is about them: its
-- Promises are what saving and reading give together. Examples are computed.
pub mod Widths
pub mod Image
pub mod Inner
pub mod Examples
