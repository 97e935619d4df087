-- What the contracts of this crate cite.
pub mod IdReads
pub mod Registers
