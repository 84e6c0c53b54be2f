-- A contract of a public call rests on this: the list of files.
pub mod Counts
pub mod Reasons
pub mod Surveys
pub mod Entries
