pub mod Classes
pub mod Names
pub mod View
pub mod Tokens
pub mod Inner
