pub mod Held
pub mod Bytes
pub mod Set
pub mod Keys
pub mod Search
