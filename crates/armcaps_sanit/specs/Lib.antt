-- What the contracts of this crate cite.
pub mod System
pub mod Users
pub mod Varying
pub mod Notes
pub mod Reaching
