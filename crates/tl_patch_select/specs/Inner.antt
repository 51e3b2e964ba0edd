-- What the proofs and private functions of this crate cite, and no public clause.
pub mod InOrder
pub mod Known
pub mod Ranges
pub mod Sources
