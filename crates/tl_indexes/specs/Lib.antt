pub mod Big5
pub mod EucKr
pub mod Gb18030
pub mod Indexes
pub mod Jis0208
pub mod Jis0212
pub mod Ranges
