-- What runs are: one step after another, and what a damaged record does to them.
pub mod Runs
pub mod Damage
pub mod Stepping
