-- Laws of texts and their tokens. Assumes nothing.
pub mod Again
pub mod AllowedBytes
pub mod ByteSorts
pub mod ByteTests
pub mod LexSound
pub mod Lexer
pub mod Lexing
pub mod NextSteps
pub mod Nexts
pub mod Runs
