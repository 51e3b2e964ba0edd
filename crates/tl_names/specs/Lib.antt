pub mod ElementNames
pub mod Elements
pub mod NamedElements
pub mod References
pub mod TagSets
