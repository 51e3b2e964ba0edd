pub mod NameKey
pub mod Hashing
pub mod Tracking
pub mod Options
