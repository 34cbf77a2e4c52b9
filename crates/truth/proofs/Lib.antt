-- Laws of tests and verdicts. Assumes nothing.
pub mod Addresses
pub mod CodeReads
pub mod ItemReads
pub mod KindReads
pub mod Machines
pub mod Meanings
pub mod PathReads
pub mod PrefixReads
pub mod Spending
pub mod TruthReads
pub mod Verdicts
