-- What a reader must believe: Lines, Output. What is proved of it: Theory. Examples are worked by computing.
pub mod Lines
pub mod Output
pub mod Examples
