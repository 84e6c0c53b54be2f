-- No public contract rests on this: the list of files.
pub mod Apart
pub mod Goes
pub mod Stores
pub mod Looks
pub mod Starts
pub mod Walked
pub mod RunLegs
