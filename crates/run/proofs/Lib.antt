-- Laws of runs. Assumes nothing.
pub mod Records
pub mod RunOver
pub mod Behind
pub mod Apart
pub mod Damaged
