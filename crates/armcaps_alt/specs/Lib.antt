-- What the contracts of this crate cite, and the crate that patches images above it.
pub mod Names
pub mod Entries
pub mod Words
pub mod Refusals
pub mod Accepted
pub mod Patched
pub mod Laws
