-- What the contracts of this crate cite.
pub mod Replaced
pub mod Features
pub mod Choices
pub mod Index
pub mod Kept
pub mod Buckets
pub mod Accepting
pub mod Counting
