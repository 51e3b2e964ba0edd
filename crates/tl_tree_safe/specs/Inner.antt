-- What the proofs and private functions of this crate cite, and no public clause.
pub mod Attributes
pub mod Cleaning
pub mod Classes
pub mod Pass
pub mod Levels
pub mod Staying
pub mod ValueKinds
pub mod Walk
pub mod Telling
pub mod Roles
pub mod Bytes
