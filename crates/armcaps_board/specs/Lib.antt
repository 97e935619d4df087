-- What the contracts of this crate cite, and those that stand on it.
pub mod Board
pub mod Steps
pub mod Order
