pub mod Elements
pub mod Fields
pub mod Filling
pub mod Links
pub mod Split
pub mod Titles
pub mod Values
