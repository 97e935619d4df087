-- What the contracts of this crate cite.
pub mod Encodings
pub mod Immediates
pub mod Decoded
pub mod Moved
