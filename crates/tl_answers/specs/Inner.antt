-- Definitions that no public clause cites.
pub mod Tables
pub mod Within
