pub mod Serialized
pub mod Places
pub mod ReadAgain
pub mod Again
pub mod Pretty
pub mod Examples
pub mod Inner
