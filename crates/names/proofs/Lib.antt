-- Laws of names. Assumes nothing.
pub mod Finding
pub mod Held
pub mod NamesDiffer
