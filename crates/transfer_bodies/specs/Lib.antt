-- A contract of a public call rests on this: the list of files.
pub mod Still
pub mod Shortening
pub mod Reaching
