pub mod EditLines
