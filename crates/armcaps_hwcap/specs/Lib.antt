-- What the contracts of this crate cite.
pub mod Facts
pub mod Hwcaps
pub mod Row
pub mod RowOf
pub mod Rows
pub mod Words
