-- What the contracts of this crate cite.
pub mod Errata
pub mod Erratum
pub mod Facts
pub mod Has
pub mod RowOf
