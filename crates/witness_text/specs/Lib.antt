-- A contract of a public call rests on this: the list of files.
pub mod Verdicts
pub mod Replays
pub mod Lines
pub mod Replaying
