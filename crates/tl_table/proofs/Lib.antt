pub mod Places
pub mod Way
pub mod Rows
pub mod Top
