-- Laws of bogons. Assumes nothing.
pub mod Meaning
pub mod Search
pub mod Table
