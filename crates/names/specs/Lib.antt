-- What the names of message types and of attributes are, with their codes.
pub mod Tables
pub mod Names
pub mod Held
