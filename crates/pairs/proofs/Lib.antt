-- The known pairs hold. Assumes nothing.
pub mod RecordR
pub mod Texts
pub mod KnownPairs
pub mod Samples
