pub mod WarningPairs
pub mod OneWarning
pub mod Turns
pub mod Known
pub mod SamePartner
pub mod Groups
pub mod Numbered
