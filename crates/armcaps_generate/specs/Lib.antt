-- What the contracts of this crate cite.
pub mod Draws
pub mod Cores
pub mod Alternatives
pub mod LargeImage
