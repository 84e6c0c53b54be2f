pub mod Operators
pub mod SignedFronts
pub mod TypeCounts
pub mod KeptWords
