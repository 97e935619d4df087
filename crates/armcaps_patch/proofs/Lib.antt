-- Lemmas, by subject.
pub mod Addresses
pub mod Grouped
pub mod Keeping
pub mod Moving
pub mod Planned
pub mod Refusing
pub mod Stamps
pub mod Standing
