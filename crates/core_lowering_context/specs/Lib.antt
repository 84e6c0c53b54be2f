-- A contract of a public call rests on this: the list of files.
pub mod Drafts
pub mod Views
pub mod Beginning
pub mod Seen
pub mod Sources
pub mod Exits
pub mod Restored
