-- The lemmas of this crate.
pub mod Assignments
pub mod Fitting
pub mod IdRegisters
pub mod RemainingWords
pub mod WordParts
