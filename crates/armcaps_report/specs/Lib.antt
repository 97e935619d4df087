-- What the contracts of this crate cite.
pub mod Settled
pub mod Extending
pub mod Texts
pub mod Lines
pub mod Report
pub mod Pooled
pub mod Trace
pub mod UserReads
pub mod Demo
