pub mod Free
pub mod Modes
pub mod Ends
pub mod Runs
pub mod Values
pub mod Attributes
pub mod Kept
pub mod Splits
pub mod Rests
pub mod Tags
pub mod Naming
pub mod Carried
mod Lower
