pub mod ToldCycles
pub mod FallingNumbers
pub mod TotalLowering
pub mod TotalSources
