-- The lemmas of this crate.
pub mod FieldWords
pub mod MaskTables
pub mod MaskedWords
pub mod MergedFields
pub mod MergedWords
pub mod Overriding
pub mod Places
pub mod Tables
