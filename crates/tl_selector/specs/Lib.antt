pub mod NodeTest
pub mod NodeSet
pub mod Spine
pub mod View
pub mod LossyChars
pub mod MissingSimple
pub mod Inner
