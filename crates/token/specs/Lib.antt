-- What tokens are: the bytes of a text, the tokens that it is written with, and the next one at a place.
pub mod Texts
pub mod Tokens
pub mod Lexer
pub mod Next
