-- Laws of judging. Assumes nothing.
pub mod Alike
pub mod Answered
pub mod Answering
pub mod Counting
pub mod Execution
pub mod Readings
pub mod Tallies
