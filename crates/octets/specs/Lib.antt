-- What bytes are: numbers, decimals, parts, items one after another, and what a writer does.
pub mod Choice
pub mod Equal
pub mod Numbers
pub mod Parts
pub mod Writes
pub mod Decimal
pub mod Lists
pub mod Rows
