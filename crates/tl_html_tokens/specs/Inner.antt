-- What the proofs and private functions of this crate cite, and no public clause.
pub mod Stages
pub mod Machine
pub mod Scans
pub mod Runs
pub mod Quiet
pub mod Through
pub mod Scanned
pub mod InTag
