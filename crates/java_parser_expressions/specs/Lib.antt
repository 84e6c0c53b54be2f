pub mod TurnView
pub mod ClassFollows
pub mod Closings
pub mod References
