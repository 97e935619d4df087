-- What the contracts of this crate cite.
pub mod Audits
pub mod Judging
pub mod Rightful
