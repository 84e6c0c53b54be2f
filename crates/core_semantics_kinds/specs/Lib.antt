-- A contract of a public call rests on this: the list of files.
pub mod Reached
pub mod PlaceValues
pub mod Kinding
pub mod ObjectKinds
pub mod Examples
