pub mod Searches
mod Shares
pub mod Lanes
pub mod Chunks
pub mod Lent
