-- Laws of communities. Assumes nothing.
pub mod Bodies
pub mod Holding
pub mod NamesDiffer
pub mod Texts
