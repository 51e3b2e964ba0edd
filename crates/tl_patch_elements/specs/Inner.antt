-- What the proofs and private functions of this crate cite, and no public clause.
pub mod Opened
pub mod Parts
pub mod Finding
