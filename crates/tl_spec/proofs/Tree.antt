-- Lemmas of trees and tables.
pub mod Siblings
pub mod Order
pub mod Builder
pub mod BuilderLaw
pub mod Reached
pub mod Writes
pub mod Pairs
pub mod EveryNode
