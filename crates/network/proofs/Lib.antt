-- Laws of networks. Assumes nothing.
pub mod Clearing
pub mod Covers
pub mod Prefixes
pub mod Texts
