-- A contract of a public call rests on this: the list of files.
pub mod Known
pub mod Marks
pub mod Contexts
pub mod NotedCalls
pub mod Walks
pub mod Noting
pub mod Numbered
