pub mod Settled
pub mod Monotone
pub mod Heights
pub mod Resumed
