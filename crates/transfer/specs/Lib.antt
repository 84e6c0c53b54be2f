-- A contract of a public call rests on this: the list of files.
pub mod Callees
pub mod Tables
pub mod Resumes
pub mod Heights
pub mod Lifts
