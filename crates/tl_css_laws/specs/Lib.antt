pub mod Plain
pub mod Shared
