-- What the known pairs are: record R, and each text with its answer.
pub mod RecordR
pub mod Pairs
