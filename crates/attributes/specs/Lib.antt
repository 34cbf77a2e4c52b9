-- What path attributes are: their bytes, their bodies, and how one is found by its code.
pub mod Attribute
pub mod Wire
pub mod Codes
pub mod Bodies
pub mod Encodable
pub mod Finding
pub mod Left
