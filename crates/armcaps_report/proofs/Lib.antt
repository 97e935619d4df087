-- The lemmas of this crate.
pub mod Ranges
pub mod Hexadecimal
pub mod Searching
pub mod Extending
pub mod Limits
mod Worked
pub mod Pieces
pub mod Traces
pub mod Tallies
