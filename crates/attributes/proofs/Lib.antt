-- Laws of path attributes. Assumes nothing.
pub mod Aggregators
pub mod AttributesExist
pub mod ByCode
pub mod Distinct
pub mod Left
pub mod Lookup
pub mod Marks
pub mod MeaningBodies
pub mod MeaningCodes
pub mod MeaningSections
pub mod RawReads
pub mod Sizes
pub mod Walks
