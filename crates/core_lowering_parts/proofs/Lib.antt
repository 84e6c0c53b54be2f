pub mod Inside
pub mod Becoming
pub mod ReturnCode
pub mod OptionsMade
pub mod GroupsFallen
