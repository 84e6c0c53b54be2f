pub mod Turns
pub mod Sizes
pub mod SameSets
pub mod NamedValues
pub mod Whole
pub mod NumberedSets
pub mod KnownRoots
pub mod ValuesRead
