pub mod PieceLemmas
pub mod DigitLemmas
