-- A contract of a public call rests on this: the list of files.
pub mod Bodies
pub mod Extents
pub mod StatementSteps
