-- The lemmas of this crate, by subject.
pub mod Codes
pub mod Fields
pub mod HighBytes
pub mod Moves
pub mod Offsets
pub mod Stays
pub mod Worked
