pub mod Digits
pub mod ConfirmedCounts
pub mod ShownRaces
