-- A contract of a public call rests on this: the list of files.
pub mod Json
pub mod Pieces
pub mod ByteOrder
pub mod Texts
pub mod Places
pub mod Reaching
pub mod Told
pub mod Sites
pub mod Sides
pub mod Marks
pub mod WitnessFiles
pub mod Written
pub mod Report
