-- What the walk is: how bytes split into records, its steps, and the reader.
pub mod Split
pub mod Steps
pub mod Readers
