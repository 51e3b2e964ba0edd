-- Lemmas of lookups.
pub mod Scans
pub mod Seen
