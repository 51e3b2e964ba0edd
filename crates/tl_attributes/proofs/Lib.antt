pub mod Others
pub mod ClassParts
pub mod Puts
pub mod Bits
