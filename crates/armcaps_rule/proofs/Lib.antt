pub mod Leading
pub mod Insertion
pub mod Merging
pub mod Overrides
