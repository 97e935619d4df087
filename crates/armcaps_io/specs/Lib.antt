-- What the contracts of this crate cite.
pub mod Causes
pub mod Counted
pub mod Memory
pub mod Pieces
pub mod Streams
