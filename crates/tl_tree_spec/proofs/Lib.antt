pub mod Active
pub mod Starts
pub mod Ends
pub mod Texts
pub mod Trees
pub mod Places
