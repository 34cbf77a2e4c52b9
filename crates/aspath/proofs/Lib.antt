-- Laws of AS paths. Assumes nothing.
pub mod Cursors
pub mod MeaningBogons
pub mod MeaningLoops
pub mod MeaningMembers
pub mod MeaningPatterns
pub mod NumberReads
pub mod Returns
pub mod SegmentReads
pub mod Segments
pub mod Table
