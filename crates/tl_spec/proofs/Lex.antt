-- Lemmas of bytes, tokens and attributes.
pub mod Bytes
pub mod Names
pub mod Many
pub mod Shrinks
pub mod Steps
pub mod Tails
pub mod Needle
pub mod Grammar
pub mod Stand
pub mod Count
pub mod ByKey
pub mod AttributeGrammar
