-- A contract of a public call rests on this: the list of files.
pub mod Kinds
pub mod States
pub mod Needs
pub mod Check
pub mod Typings
pub mod Contexts
pub mod Resuming
pub mod Lifts
pub mod Walks
pub mod Reaching
pub mod Examples
