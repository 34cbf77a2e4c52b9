-- What the printed lines of a message are, and what writing them answers.
pub mod Text
pub mod Line
pub mod Answer
pub mod Field
