pub mod Lex
pub mod Tree
pub mod Print
pub mod Walk
pub mod Lookup
pub mod Select
pub mod Edit
pub mod Examples
