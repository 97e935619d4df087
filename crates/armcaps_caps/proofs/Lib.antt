-- The lemmas of this crate.
pub mod Listing
pub mod Members
pub mod Naming
pub mod Shared
pub mod Classes
pub mod CacheType
