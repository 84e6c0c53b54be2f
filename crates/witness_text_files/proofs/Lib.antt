pub mod TwoItems
pub mod ReadBack
pub mod WholeFile
pub mod Digits
