-- Our functions meet what is claimed. Assumes nothing.
pub mod Answers
pub mod DemandOne
pub mod DemandTwo
pub mod DemandThree
pub mod OnMessages
pub mod SamplesOnR
pub mod ShutOut
pub mod Walk
pub mod WholeNumbers
