-- No public contract rests on this: the list of files.
pub mod Lists
pub mod Rings
pub mod Cells
