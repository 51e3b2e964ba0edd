-- What the proofs and private functions of this crate cite, and no public clause.
pub mod Parts
pub mod Within
pub mod Seams
pub mod Tails
pub mod Causes
pub mod Limits
pub mod Apart
pub mod CommentAsks
