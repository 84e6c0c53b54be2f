mod Numbers
pub mod OneToOne
mod Telling
pub mod Tied
mod Walks
pub mod Given
pub mod Sets
pub mod SameOutcomes
mod Records
mod Kept
mod Seen
mod Layers
mod Others
mod Itself
pub mod Unchanged
