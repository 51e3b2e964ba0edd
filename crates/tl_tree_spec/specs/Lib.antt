pub mod HtmlForest
pub mod Groups
pub mod Builder
pub mod HtmlTreeBuilder
pub mod Stays
pub mod Places
pub mod Examples
