-- Selectors: as values, as texts, and where they hold.
pub mod Selector
pub mod LossyText
pub mod Meaning
pub mod Search
pub mod Text
pub mod Reading
