pub mod Joins
pub mod BothWays
pub mod Along
pub mod Reading
pub mod NumbersJoined
pub mod Stacks
pub mod MetValues
