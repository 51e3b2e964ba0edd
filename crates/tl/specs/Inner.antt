-- What the proofs and private functions of this crate cite, and no public clause.
pub mod Node
pub mod Preorder
pub mod Names
pub mod TagLends
pub mod NodeLends
pub mod TableLends
