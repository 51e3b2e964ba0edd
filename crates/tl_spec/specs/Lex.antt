-- How a text is read from the front: bytes, tokens, attributes.
pub mod ByteClass
pub mod Runs
pub mod Attribute
pub mod Token
pub mod Grammar
pub mod AttributeList
pub mod AttributeGrammar
