-- A contract of a public call rests on this: the list of files.
pub mod Files
pub mod Answers
pub mod Written
pub mod Examples
