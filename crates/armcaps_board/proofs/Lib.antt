-- Lemmas on steps and their order.
pub mod Turns
pub mod Lines
