-- Lemmas, by subject.
pub mod Refusing
pub mod Putting
pub mod Pieces
pub mod Finding
pub mod Choosing
