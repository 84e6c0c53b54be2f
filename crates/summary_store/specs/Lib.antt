-- A contract of a public call rests on this: the list of files.
pub mod Machine
pub mod Laws
pub mod Setups
pub mod Lists
pub mod Kept
pub mod Passes
pub mod Demands
pub mod Examples
