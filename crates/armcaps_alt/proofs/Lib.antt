-- Lemmas, by subject.
pub mod Accepting
pub mod KnownCapabilities
pub mod Lookup
pub mod ReplacedSites
pub mod Worked
