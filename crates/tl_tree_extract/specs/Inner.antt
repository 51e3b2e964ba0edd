-- What the proofs and private functions of this crate cite, and no public clause.
pub mod Runs
pub mod Open
pub mod Depths
pub mod Slots
pub mod Kept
pub mod Sinks
pub mod Marked
pub mod Keys
