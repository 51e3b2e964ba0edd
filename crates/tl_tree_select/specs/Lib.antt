pub mod Page
pub mod AnyCase
pub mod Meaning
pub mod Inner
