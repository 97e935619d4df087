-- The pieces of a text, and the numbers that digits write.
pub mod Pieces
pub mod Digits
