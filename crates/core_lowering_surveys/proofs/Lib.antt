pub mod SameCounts
pub mod Tallies
pub mod ZipLoops
pub mod MethodsMade
