-- A contract of a public call rests on this: the list of files.
pub mod Values
pub mod SameValue
pub mod Numbered
pub mod SameNumber
pub mod Slots
