-- No public contract rests on this: the list of files.
pub mod Values
pub mod Arrivals
pub mod Sites
pub mod RunValues
pub mod Ends
pub mod ClearLegs
pub mod Names
pub mod Shapes
pub mod Weaker
pub mod Quiet
pub mod QuietEntries
pub mod Places
pub mod Meets
pub mod Kept
