-- A contract of a public call rests on this: the list of files.
pub mod Warnings
pub mod Pairs
pub mod MethodRecords
pub mod Firsts
