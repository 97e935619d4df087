-- What the contracts of this crate cite.
pub mod Core
pub mod Facts
pub mod FieldNames
pub mod Fields
pub mod Masks
pub mod Merging
pub mod Overriding
pub mod Row
pub mod RowOf
pub mod Rows
