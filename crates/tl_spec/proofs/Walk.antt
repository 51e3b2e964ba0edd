-- Lemmas of walks.
pub mod Walks
pub mod Events
pub mod Rising
pub mod Ranges
