pub mod CompiledSelectors
pub mod Founds
pub mod Given
pub mod Keys
pub mod Lent
pub mod Readings
pub mod Room
pub mod Rows
pub mod SafePages
pub mod Selectors
mod SelectorValues
mod Texts
mod Values
pub mod WrittenRemovals
pub mod Joined
