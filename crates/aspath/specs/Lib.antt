-- What AS paths are: their bytes, their members, and what the tests of them mean.
pub mod Members
pub mod Wire
pub mod Encodable
pub mod Cursors
pub mod Loops
pub mod Bogons
pub mod Patterns
