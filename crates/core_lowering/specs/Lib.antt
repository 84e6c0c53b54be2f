-- A contract of a public call rests on this: the list of files.
pub mod Parts
pub mod Known
pub mod Calls
pub mod Skipped
pub mod Lowered
