pub mod Outcomes
pub mod Pages
