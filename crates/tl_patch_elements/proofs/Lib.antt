pub mod Plain
pub mod Said
pub mod Stack
pub mod Closing
pub mod Texts
pub mod Heads
pub mod Tags
pub mod Whole
