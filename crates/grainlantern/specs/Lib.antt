-- What the program writes: the refusal of a filter, or the lines of a run.
pub mod Refusal
pub mod Output
