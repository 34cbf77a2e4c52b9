-- What communities are: their halves, their bytes, which have a name, and their text.
pub mod Communities
pub mod Names
pub mod Text
pub mod Left
