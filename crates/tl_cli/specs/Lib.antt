pub mod Task
pub mod Filename
pub mod Reports
pub mod UsageErrors
pub mod Visible
