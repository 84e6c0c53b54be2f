-- A contract of a public call rests on this: the list of files.
pub mod Warned
pub mod Heaps
pub mod Races
pub mod Headline
pub mod Table
