-- What messages are: the records that represent them, which are allowed, and how a record is refused.
pub mod Message
pub mod Represents
pub mod Allowed
pub mod Fields
pub mod Refusals
pub mod Decode
