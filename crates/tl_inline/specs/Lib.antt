pub mod InlineVec
pub mod InlineMap
pub mod Digest
pub mod ShortHash
pub mod Places
pub mod RemainingPairs
pub mod Inner
