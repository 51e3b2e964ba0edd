pub mod Doctyping
