-- Laws of bytes. Assumes nothing.
pub mod Bytes
pub mod Choices
pub mod Equals
pub mod Numbers
pub mod Fields
pub mod Writes
pub mod Decimal
pub mod Rows
pub mod Encode
pub mod NumberBytes
pub mod Every
pub mod Some
pub mod Items
pub mod Ranges
