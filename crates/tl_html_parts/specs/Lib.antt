pub mod View
pub mod Parts
pub mod Bytes
pub mod Rest
pub mod Places
pub mod Fronts
pub mod Inner
