-- A contract of a public call rests on this: the list of files.
pub mod Parts
pub mod Containers
pub mod Together
