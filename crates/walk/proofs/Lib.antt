-- Laws of the walk. Assumes nothing.
pub mod Steps
pub mod Splits
pub mod Walks
pub mod Behind
pub mod Readers
