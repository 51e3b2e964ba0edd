-- What the proofs and private functions of this crate cite, and no public clause.
pub mod Columns
pub mod Compound
pub mod Finding
pub mod Kin
pub mod Links
pub mod Looking
pub mod Terms
pub mod Twin
