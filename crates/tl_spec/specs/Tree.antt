-- What tokens make: trees, and a document as a table of nodes.
pub mod Inline
pub mod Forest
pub mod Document
pub mod Builder
pub mod Order
pub mod Element
pub mod EveryNode
