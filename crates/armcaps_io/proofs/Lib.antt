-- Lemmas, by subject.
pub mod PieceLemmas
pub mod Sent
pub mod StreamLemmas
