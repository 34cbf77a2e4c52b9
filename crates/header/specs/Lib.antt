-- What the header of a record is: where its fields stand.
pub mod Header
