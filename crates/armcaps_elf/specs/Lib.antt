-- What the contracts of this crate cite.
pub mod Headers
pub mod Sections
pub mod Refusals
pub mod Images
pub mod Stretches
pub mod Standing
