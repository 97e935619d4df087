pub mod Call
pub mod Words
pub mod Outcome
