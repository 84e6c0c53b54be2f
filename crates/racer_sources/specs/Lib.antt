-- A contract of a public call rests on this: the list of files.
pub mod Sources
pub mod Lines
pub mod Reading
pub mod Finding
pub mod Declaring
pub mod Programs
pub mod Lowering
pub mod OneReading
pub mod Contents
pub mod ReadContents
pub mod Kept
