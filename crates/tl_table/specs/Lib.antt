pub mod TreeFault
pub mod Answer
pub mod LastDescendant
pub mod Links
pub mod Inner
