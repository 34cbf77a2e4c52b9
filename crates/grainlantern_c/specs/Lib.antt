-- What the functions for C answer and set.
pub mod Judgements
pub mod Programs
pub mod Steps
