-- What the contracts of this crate cite.
pub mod Entries
pub mod Words
pub mod Refusals
pub mod Jumped
pub mod Grouping
pub mod Standing
pub mod Laws
