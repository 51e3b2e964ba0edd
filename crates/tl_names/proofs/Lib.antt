pub mod ElementNames
pub mod Numbers
pub mod TagSets
