pub mod Operators
pub mod JoinedStatements
mod Cuts
