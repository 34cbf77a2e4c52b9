-- What networks are: their bytes and their text, and which covers which.
pub mod Networks
pub mod Wire
pub mod Text
pub mod Left
