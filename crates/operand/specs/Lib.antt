-- What operands are: how each kind is written, and the test that each stands for.
pub mod Fronts
pub mod Decimals
pub mod AsNumbers
pub mod Codes
pub mod Addresses
pub mod Peers
pub mod Parted
pub mod Patterns
pub mod Communities
pub mod Listed
pub mod Times
pub mod Tests
pub mod Left
