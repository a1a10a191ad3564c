-- Shared: the law of whatever acts on words, is joined by doing one after the other, and is known by what it does. Laws: the three reducers, and views.
pub mod Modulo
pub mod Shared
pub mod Laws
