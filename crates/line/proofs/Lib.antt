-- Laws of printed lines. Assumes nothing.
pub mod Bound
pub mod Communities
pub mod Costs
pub mod Fields
pub mod Lines
pub mod Measured
pub mod Numbers
pub mod PathCosts
pub mod Room
pub mod Texts
pub mod Told
