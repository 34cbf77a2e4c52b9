-- What judging is: its answer, the lines, the tally, and the functions that a claim speaks of.
pub mod Tallies
pub mod Answers
pub mod Judging
pub mod Functions
pub mod Executing
