-- What is claimed: the demands and the walk, said of any functions, and ours.
pub mod Functions
pub mod Walk
pub mod DemandOne
pub mod DemandTwo
pub mod DemandThree
pub mod Answered
pub mod Wrong
