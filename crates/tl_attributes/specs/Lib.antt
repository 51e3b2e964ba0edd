pub mod Attributes
pub mod Summary
pub mod AttributesView
pub mod HeldAttributes
pub mod Inner
