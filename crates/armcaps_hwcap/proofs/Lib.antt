-- The lemmas of this crate.
pub mod Listing
pub mod Sums
pub mod Sets
pub mod Shown
