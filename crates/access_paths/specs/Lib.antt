-- A contract of a public call rests on this: the list of files.
pub mod Paths
pub mod Order
pub mod Text
pub mod Same
pub mod Table
pub mod Extensions
