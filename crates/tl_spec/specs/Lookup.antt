-- Tags by their id and their class.
pub mod ClassMember
pub mod Scan
