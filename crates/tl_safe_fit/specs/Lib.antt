pub mod Kinds
pub mod Levels
pub mod Words
pub mod Linked
pub mod Rows
pub mod Indexed
