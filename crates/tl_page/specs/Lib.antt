pub mod Failure
pub mod Error
pub mod Outcome
pub mod Page
