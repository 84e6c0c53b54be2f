-- No public contract rests on this: the list of files.
pub mod Seen
