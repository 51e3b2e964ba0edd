pub mod Chains
pub mod Found
