-- A contract of a public call rests on this: the list of files.
pub mod Inside
pub mod Sets
