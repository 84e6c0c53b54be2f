pub mod Turns
pub mod After
pub mod CompleteTables
pub mod Passing
pub mod FoundRow
