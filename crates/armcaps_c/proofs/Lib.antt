pub mod Coming
pub mod Wording
