-- A contract of a public call rests on this: the list of files.
pub mod Ways
pub mod Answers
pub mod Paths
pub mod Exits
pub mod Going
pub mod Counts
pub mod Passings
pub mod Stable
pub mod Marks
pub mod Examples
pub mod Alone
pub mod Gathered
pub mod Ends
pub mod WayPairs
