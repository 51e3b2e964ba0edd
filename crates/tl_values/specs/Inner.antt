-- What the proofs and private functions of this crate cite, and no public clause.
pub mod Absolute
pub mod Names
pub mod Parameters
pub mod Places
