pub mod Attributes
pub mod Nodes
pub mod Pages
pub mod Splits
pub mod Texts
pub mod Trees
