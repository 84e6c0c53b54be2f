-- A contract of a public call rests on this: the list of files.
pub mod Levels
pub mod Lists
pub mod Whole
pub mod Sessions
pub mod Work
