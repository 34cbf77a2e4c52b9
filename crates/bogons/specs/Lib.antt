-- What bogons are, and how a number is looked up among them.
pub mod Bogons
pub mod Search
