pub mod NotZero
