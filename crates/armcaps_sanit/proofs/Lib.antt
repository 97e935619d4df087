-- The lemmas of this crate.
pub mod SystemFields
pub mod SystemWords
pub mod UserWords
pub mod OverrideNotes
pub mod WordsByField
pub mod ExampleWords
pub mod Reaching
