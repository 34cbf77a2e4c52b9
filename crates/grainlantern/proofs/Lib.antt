-- Laws of the program. Assumes nothing.
pub mod Compiled
pub mod Onward
pub mod Refusals
