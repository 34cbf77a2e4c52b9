-- What is true of a message: each test, and the verdict.
pub mod Means
pub mod Records
pub mod Verdict
pub mod Matching
