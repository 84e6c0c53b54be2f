mod SortedNames
mod Fronts
mod Added
pub mod Faults
mod There
mod Together
mod OneRefusal
mod OneSource
pub mod OneReading
mod Conditions
mod ReadContents
mod Declared
mod Replaced
mod KeptPrograms
mod OtherFiles
