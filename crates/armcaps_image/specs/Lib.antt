-- What the contracts of this crate cite, and those of the crates that read and write an image.
pub mod Bytes
pub mod Places
pub mod Last
pub mod Buckets
