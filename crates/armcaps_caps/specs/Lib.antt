-- What the contracts of this crate cite.
pub mod Capabilities
pub mod Class
pub mod Facts
pub mod Flags
pub mod Row
pub mod RowOf
pub mod Rows
pub mod Scopes
pub mod Set
pub mod RowFlags
