-- What a command line says of the fields of ID registers: its words, what they assign, and the overrides.
pub mod Assignments
pub mod Overrides
pub mod Words
