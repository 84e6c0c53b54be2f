-- A contract of a public call rests on this: the list of files.
pub mod Uses
pub mod Words
pub mod Command
pub mod Readings
pub mod Lines
pub mod Forms
pub mod Requests
