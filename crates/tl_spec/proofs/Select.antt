-- Lemmas of selectors.
pub mod Tests
pub mod Search
pub mod Parts
pub mod Text
