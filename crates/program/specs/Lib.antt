-- What programs are: readings, the records that stand for them, the machine, and which programs are valid.
pub mod Spent
pub mod Readings
pub mod Records
pub mod Kinds
pub mod Layout
pub mod Compiling
pub mod Machine
pub mod Validity
pub mod Checks
