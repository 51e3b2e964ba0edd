pub mod LineLists
