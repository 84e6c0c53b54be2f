pub mod Counting
pub mod Lists
pub mod Joining
mod Ringing
mod Seeing
pub mod Starting
mod Linking
mod Columns
mod Celling
mod Splicing
mod Moving
mod Opening
mod Keeping
