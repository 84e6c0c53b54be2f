-- A contract of a public call rests on this: the list of files.
pub mod Rounds
pub mod Order
pub mod Resuming
