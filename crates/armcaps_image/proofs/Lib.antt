-- Lemmas, by subject.
pub mod Buckets
pub mod Last
pub mod Within
pub mod Words
