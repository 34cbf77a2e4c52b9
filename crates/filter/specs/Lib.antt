-- What filters are: their grammar and levels, what compiling a text answers, and how the code reads it.
pub mod Words
pub mod Grammar
pub mod Levels
pub mod Answers
pub mod Given
pub mod Refused
pub mod Reader
pub mod Answering
pub mod Functions
pub mod Parsing
