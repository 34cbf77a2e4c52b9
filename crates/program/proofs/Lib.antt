-- Laws of programs. Assumes nothing.
pub mod Codes
pub mod KindLaws
pub mod LayoutLaws
pub mod MachineLaws
pub mod ProgramOctets
pub mod ReadingValid
pub mod RightLaws
pub mod Valid
pub mod ValidGroups
pub mod ValidKinds
pub mod ValidLandings
pub mod ValidRecords
pub mod ValidWalks
pub mod Walks
