pub mod Rows
pub mod Digits
pub mod Plain
pub mod Order
