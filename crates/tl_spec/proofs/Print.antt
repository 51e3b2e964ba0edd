-- Lemmas of prints.
pub mod Ascii
pub mod Printed
pub mod Comments
pub mod Lossy
pub mod Own
pub mod Again
pub mod Identity
pub mod Fresh
pub mod Images
pub mod Misread
